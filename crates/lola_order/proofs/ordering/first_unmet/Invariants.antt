use Rattle.std.proofs.Common.{ℕ, ◌<◌}
use Rattle.lola_order.specs.State.{IsUnmet}
use Rattle.lola_order.proofs.ordering.first_unmet.Given as goal

abbrev pub invariant-loop-signal : goal.invariant-loop-signal
invariant-loop-signal l = (k : ℕ) → k < l.signal → IsUnmet l.met k → ⊥
