use Rattle.std.proofs.Common.{◌≡◌, ◌++◌, drop}
use Rattle.lola_eval.proofs.parts.push_bits.Given as goal

abbrev pub invariant-loop-bit : goal.invariant-loop-bit
invariant-loop-bit g l = l.bits.items ++ drop l.bit-index l.more ≡ l.fn.bits.items ++ l.more
