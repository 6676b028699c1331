use Rattle.std.proofs.Common.{◌≡◌, drop, flat_map}
use Rattle.lola_unfold.specs.Offsets.{inner_in, laid_in, lay, local_items}
use Rattle.lola_unfold.proofs.layout.add_locals.Given as goal

abbrev pub invariant-loop-local : goal.invariant-loop-local
invariant-loop-local l = lay (laid_in l.layout) (flat_map (local_items (inner_in l.inners)) (drop l.local-index l.locals)) ≡ lay (laid_in l.fn.layout) (flat_map (local_items (inner_in l.inners)) l.locals)
