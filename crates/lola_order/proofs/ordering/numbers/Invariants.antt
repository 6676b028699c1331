use Rattle.std.proofs.Common.{ℕ, ◌<◌}
use Rattle.lola_bits.specs.Lists.{IsIn}
use Rattle.lola_order.proofs.ordering.numbers.Given as goal

abbrev pub invariant-loop-number : goal.invariant-loop-number
invariant-loop-number l = (k : ℕ) → k < l.number → IsIn k l.made.items
