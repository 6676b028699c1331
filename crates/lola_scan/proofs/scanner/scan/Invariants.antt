use Rattle.std.proofs.Common.{◌-◌, ◌≤◌, List, ◌++◌, length, drop}
use Rattle.lola_scan.specs.declared.token.Token.{Token}
use Rattle.lola_scan.specs.declared.token.ScanError.{ScanError}
use Rattle.lola_scan.specs.Tokens.{Spells, Fails}
use Rattle.lola_scan.proofs.scanner.scan.Given as goal

abbrev pub invariant-loop-at : goal.invariant-loop-at
invariant-loop-at l = record {
  within : l.at ≤ length l.bytes;
  spells : (behind : List Token) → Spells l.at (drop l.at l.bytes) behind → Spells 0 l.bytes (l.tokens.items ++ behind);
  fails : (fault : ScanError) → Fails l.at (drop l.at l.bytes) fault → Fails 0 l.bytes fault;
}

abbrev pub decreases-loop-at : goal.decreases-loop-at
decreases-loop-at l = length l.bytes - l.at
