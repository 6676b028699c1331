-- Lists of expressions one behind another.
use Rattle.std.proofs.Common.{◌≡◌, List, [], ◌∷◌, ◌++◌, refl, ap}
use Rattle.lola_flat.specs.declared.expr.FExpr.{FExpr}
use Rattle.lola_flat.specs.Tree.{ExprTrees, no_expr, one_expr, expr_tree, expr_trees}

abbrev pub followed : ExprTrees → ExprTrees → ExprTrees
followed no_expr behind = behind
followed (one_expr e es) behind = one_expr e (followed es behind)

-- one more at the end, and nothing more
pub followed_push : (es : List FExpr) (e : FExpr) (behind : ExprTrees) → followed (expr_trees (es ++ e ∷ [])) behind ≡ followed (expr_trees es) (one_expr (expr_tree e) behind)
followed_push [] e behind = refl
followed_push (f ∷ es) e behind = ap (one_expr (expr_tree f)) (followed_push es e behind)

pub followed_none : (es : ExprTrees) → followed es no_expr ≡ es
followed_none no_expr = refl
followed_none (one_expr e es) = ap (one_expr e) (followed_none es)
