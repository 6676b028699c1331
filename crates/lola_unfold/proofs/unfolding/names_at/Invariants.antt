use Rattle.std.proofs.Common.{◌≡◌, take, map}
use Rattle.lola_unfold.specs.Finished.{name_at}
use Rattle.lola_unfold.proofs.unfolding.names_at.Given as goal

abbrev pub invariant-loop-number : goal.invariant-loop-number
invariant-loop-number l = l.names ≡ map (name_at l.signals) (take l.number-index l.numbers)
