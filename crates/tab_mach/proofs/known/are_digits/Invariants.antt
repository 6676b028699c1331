use Rattle.std.proofs.Common.{◌≡◌, drop}
use Rattle.tab_tree.specs.Names.{are_digits}
use Rattle.tab_mach.proofs.known.are_digits.Given as goal

abbrev pub invariant-loop-byte : goal.invariant-loop-byte
invariant-loop-byte l = are_digits (drop l.byte-index l.bytes) ≡ are_digits l.bytes
