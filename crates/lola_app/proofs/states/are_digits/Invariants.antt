use Rattle.std.proofs.Common.{◌≡◌, drop}
use Rattle.lola_app.specs.Small.{are_digits}
use Rattle.lola_app.proofs.states.are_digits.Given as goal

abbrev pub invariant-loop-byte : goal.invariant-loop-byte
invariant-loop-byte l = are_digits (drop l.byte-index l.bytes) ≡ are_digits l.bytes
