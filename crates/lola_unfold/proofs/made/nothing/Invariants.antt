use Rattle.std.proofs.Common.{◌≡◌, replicate, None}
use Rattle.lola_unfold.proofs.made.nothing.Given as goal

abbrev pub invariant-loop-number : goal.invariant-loop-number
invariant-loop-number g l = l.items.items ≡ replicate l._number None
