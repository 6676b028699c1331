use Rattle.std.proofs.Common.{◌++◌, List, flat_map, sym, ap, ◌∙◌}
use Rattle.lola_flat.specs.declared.expr.FExpr.{FExpr}
use Rattle.lola_flat.specs.Tree.{ExprTree, expr_tree, expr_trees}
use Rattle.lola_flat.specs.Value.{all_reads}
use Rattle.lola_unfold.specs.Flat.{vector_read, vectors_read}
use Rattle.lola_unfold.proofs.uses.+uses.Goals as goal

pub add_uses-returns-in_ok-add_all-in-Join : goal.add_uses-returns-in_ok-add_all-in-Join
add_uses-returns-in_ok-add_all-in-Join t c =
    let old = c.args.uses.now in
    c.in_ok-add_all-in-Join.ensures ∙ ap (λ (es : List FExpr). old ++ flat_map vector_read (all_reads (expr_trees es))) c.items.ensures
    ∙ sym (ap (λ (e : ExprTree). old ++ vectors_read e) (ap expr_tree c.in-Join.is ∙ c.lists_are_trees.ensures.join c.in-Join.parts))

pub add_uses-returns-in_ok-add_all-in-Apply : goal.add_uses-returns-in_ok-add_all-in-Apply
add_uses-returns-in_ok-add_all-in-Apply t c =
    let old = c.args.uses.now in
    c.in_ok-add_all-in-Apply.ensures ∙ ap (λ (es : List FExpr). old ++ flat_map vector_read (all_reads (expr_trees es))) c.items-in-Apply.ensures
    ∙ sym (ap (λ (e : ExprTree). old ++ vectors_read e) (ap expr_tree c.in-Apply.is ∙ c.lists_are_trees.ensures.apply c.in-Apply.op c.in-Apply.args))
