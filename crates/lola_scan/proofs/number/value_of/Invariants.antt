use Rattle.std.proofs.Common.{◌≡◌, ◌<◌, ◌^◌, drop}
use Rattle.lola_scan.specs.Bytes.{number_behind, number_of}
use Rattle.lola_scan.proofs.number.value_of.Given as goal

abbrev pub invariant-loop-digit : goal.invariant-loop-digit
invariant-loop-digit l = record {
  spelled : number_behind l.base l.value (drop l.digit-index l.digits) ≡ number_of l.base l.digits;
  small : l.value < 2 ^ 128;
}
