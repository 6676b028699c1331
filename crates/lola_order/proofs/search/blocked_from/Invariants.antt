use Rattle.std.proofs.Common.{ℕ, take}
use Rattle.lola_bits.specs.Lists.{IsIn}
use Rattle.lola_order.specs.State.{IsUnmet}
use Rattle.lola_order.proofs.search.blocked_from.Given as goal

abbrev pub invariant-loop-at : goal.invariant-loop-at
invariant-loop-at l = (j : ℕ) → IsIn j (take l.at l.uses) → IsUnmet l.met j → IsIn j (take l.from l.uses)
