use Rattle.std.proofs.Common.{map, sym, ap, ◌∙◌}
use Rattle.lola_flat.specs.Tree.{some_tree}
use Rattle.lola_unfold.specs.Pieces.{made_tree}
use Rattle.lola_unfold.proofs.Growing.{append_none, put_tree}
use Rattle.lola_unfold.proofs.made.Made.put_equation.Goals as goal

pub returns : goal.returns
returns c =
    let old = made_tree c.args.self.now in
    let h = sym (append_none old.heads) in
    let e = ap (map some_tree) c.put.ensures ∙ put_tree c.args.self.now.equations.items c.args.number c.args.value in
    λ i. record { heads = h i; equations = e i; nexts = old.nexts }
