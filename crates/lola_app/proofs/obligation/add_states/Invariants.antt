use Rattle.std.proofs.Common.{◌≡◌, ◌++◌, map, drop}
use Rattle.lola_app.specs.Listing.{named_of, state_obligations}
use Rattle.lola_app.proofs.obligation.add_states.Given as goal

abbrev pub invariant-loop-number : goal.invariant-loop-number
invariant-loop-number l =
    map named_of l.list.items ++ state_obligations l.class l.number (drop l.number l.states)
    ≡ map named_of l.fn.list.items ++ state_obligations l.class 0 l.states
