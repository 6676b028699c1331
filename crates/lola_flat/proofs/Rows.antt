-- The expressions of a join and of an operator, as a list and in a row.
use Rattle.std.proofs.Common.{◌≡◌, List, refl, ap, ◌∙◌}
use Rattle.lola_bits.specs.declared.op.Op.{Op}
use Rattle.lola_flat.specs.declared.expr.FExpr.{FExpr, Join, Apply}
use Rattle.lola_flat.specs.declared.expr.FExpr.TheBlock.{Row_of-FExpr, end_of-FExpr, more_of-FExpr, items-the_row-FExpr, hidden-the_row-FExpr-0, items_hidden-the_row-FExpr-0}
use Rattle.lola_flat.specs.Tree.{expr_tree, row_trees, expr_trees, join, apply, one_expr}

row_is : {m : _} (row : Row_of-FExpr m) → row_trees row ≡ expr_trees (items-the_row-FExpr m row)
row_is end_of-FExpr = refl
row_is (more_of-FExpr t rest) = ap (one_expr (expr_tree t)) (row_is rest)

pub join_is : (parts : List FExpr) → expr_tree (Join parts) ≡ join (expr_trees parts)
join_is parts = ap join (row_is (hidden-the_row-FExpr-0 parts) ∙ ap expr_trees (items_hidden-the_row-FExpr-0 parts))

pub apply_is : (o : Op) (args : List FExpr) → expr_tree (Apply o args) ≡ apply o (expr_trees args)
apply_is o args = ap (apply o) (row_is (hidden-the_row-FExpr-0 args) ∙ ap expr_trees (items_hidden-the_row-FExpr-0 args))
