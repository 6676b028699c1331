use Rattle.std.proofs.Common.{map, sym, ap, ◌∙◌}
use Rattle.lola_unfold.specs.Pieces.{made_tree, some_next}
use Rattle.lola_unfold.proofs.Growing.{append_none, put_next_tree}
use Rattle.lola_unfold.proofs.made.Made.put_next.Goals as goal

pub returns : goal.returns
returns c =
    let old = made_tree c.args.self.now in
    let h = sym (append_none old.heads) in
    let n = ap (map some_next) c.put.ensures ∙ put_next_tree c.args.self.now.nexts.items c.args.number c.args.next in
    λ i. record { heads = h i; equations = old.equations; nexts = n i }
