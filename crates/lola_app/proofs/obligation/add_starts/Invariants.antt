use Rattle.std.proofs.Common.{◌≡◌, ◌++◌, map, drop}
use Rattle.lola_app.specs.Listing.{named_of, start_obligations}
use Rattle.lola_app.proofs.obligation.add_starts.Given as goal

abbrev pub invariant-loop-number : goal.invariant-loop-number
invariant-loop-number l =
    map named_of l.list.items ++ start_obligations l.number (drop l.number l.starts) ≡ map named_of l.fn.list.items ++ start_obligations 0 l.starts
