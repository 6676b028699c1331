use Rattle.std.proofs.Common.{◌≡◌, ◌++◌, drop}
use Rattle.lola_elab.specs.Leaves.{shown}
use Rattle.lola_app.specs.Scoping.{state_entries}
use Rattle.lola_app.proofs.scopes.enter_states.Given as goal

abbrev pub invariant-loop-state : goal.invariant-loop-state
invariant-loop-state l = shown l.entries.items ++ state_entries (drop l.state-index l.states) ≡ shown l.fn.entries.items ++ state_entries l.states
