use Rattle.std.proofs.Common.{take, map}
use Rattle.lola_bits.specs.Lists.{AreEach}
use Rattle.small_tree.specs.Table.{set_tree}
use Rattle.lola_app.specs.Fitting.{IsSetState}
use Rattle.lola_app.proofs.rows.claimed_states.Given as goal

-- the states so far
abbrev pub invariant-loop-state : goal.invariant-loop-state
invariant-loop-state l = AreEach (IsSetState (map set_tree l.rows) l.scope) (take l.state-index l.states) l.claimed.items
