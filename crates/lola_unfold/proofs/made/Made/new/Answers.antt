use Rattle.std.proofs.Common.{map, None, ap, ◌∙◌}
use Rattle.lola_bits.proofs.Places.{map_replicate}
use Rattle.lola_flat.specs.Tree.{some_tree}
use Rattle.lola_unfold.specs.Pieces.{some_next}
use Rattle.lola_unfold.proofs.made.Made.new.Goals as goal

pub returns : goal.returns
returns c =
    let h = c.new.ensures.items in
    let e = ap (map some_tree) c.in_ok-nothing.ensures ∙ map_replicate some_tree c.args.count None in
    let n = ap (map some_next) c.in_ok-nothing-2.ensures ∙ map_replicate some_next c.args.count None in
    λ i. record { heads = h i; equations = e i; nexts = n i }
