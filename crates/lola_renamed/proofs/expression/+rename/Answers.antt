use Rattle.std.proofs.Common.{◌≡◌, ◌+◌, List, [], ◌∷◌, ◌++◌, drop, sym, ◌∙◌, ap, arith}
use Rattle.std.proofs.lemmas.List.{drop_all}
use Rattle.lola_bits.proofs.Places.{drop_item}
use Rattle.lola_tree.specs.Tree.{tree, parts_tree}
use Rattle.lola_tree.proofs.Parts.{concat_tree}
use Rattle.lola_flat.specs.declared.expr.FExpr.{FExpr}
use Rattle.lola_flat.specs.Tree.{ExprTree, ExprTrees, expr_tree, expr_trees, repeat, join, one_expr}
use Rattle.lola_renamed.specs.Renamed.{renamed, renamed_parts}
use Rattle.lola_renamed.proofs.Rows.{followed, followed_push, followed_none}
use Rattle.lola_renamed.proofs.expression.+rename.Goals as goal

-- one part more
step : (made new : List FExpr) (e : FExpr) (value : ExprTree) (behind all : ExprTrees) → new ≡ made ++ e ∷ [] → expr_tree e ≡ value →
    followed (expr_trees made) (one_expr value behind) ≡ all → followed (expr_trees new) behind ≡ all
step made new e value behind all is same before =
    ap (λ (l : List FExpr). followed (expr_trees l) behind) is ∙ followed_push made e behind ∙ ap (λ (v : ExprTree). followed (expr_trees made) (one_expr v behind)) same ∙ before

pub rename_parts-loop-part-preserved : goal.rename_parts-loop-part-preserved
rename_parts-loop-part-preserved g t c =
    let names = g.R.Reading.meant c.args.names.now in
    let ps = c.args.parts.now in
    let cut : drop c.loop-part.part-index ps ≡ c.part-item.result ∷ drop (c.loop-part.part-index + 1) ps = drop_item ps c.loop-part.part-index c.part-item.result (omega arith) c.part-item.is in
    step c.loop-part.made c.push.new.self c.in_ok-repeat.field-0 (repeat (renamed names (tree c.part-item.result.value)) (names.count c.part-item.result.times))
    (renamed_parts names (parts_tree (drop (c.loop-part.part-index + 1) ps))) (renamed_parts names (parts_tree ps))
    c.in_ok-push.ensures.ok
    (c.in_ok-repeat.ensures ∙ ap (λ v. repeat v c.count-times.result) c.in_ok-value.ensures ∙ ap (λ n. repeat (renamed names (tree c.part-item.result.value)) n) c.count-times.ensures)
    (sym (ap (λ l. followed (expr_trees c.loop-part.made) (renamed_parts names (parts_tree l))) cut) ∙ c.loop-part.invariant)

pub rename_parts-returns : goal.rename_parts-returns
rename_parts-returns g t c =
    let names = g.R.Reading.meant c.args.names.now in
    sym (followed_none (expr_trees c.loop-part.made))
    ∙ sym (ap (λ ps. followed (expr_trees c.loop-part.made) (renamed_parts names (parts_tree ps))) (drop_all c.loop-part.part-index c.args.parts.now (omega arith)))
    ∙ c.loop-part.invariant

pub rename-returns-in_ok-rename_parts-in-Concat : goal.rename-returns-in_ok-rename_parts-in-Concat
rename-returns-in_ok-rename_parts-in-Concat g t c =
    let names = g.R.Reading.meant c.args.names.now in
    c.join.ensures ∙ ap join (c.in_ok-rename_parts-in-Concat.ensures ∙ ap (λ ps. renamed_parts names (parts_tree ps)) c.items.ensures)
    ∙ sym (ap (renamed names) (ap tree c.in-Concat.is ∙ concat_tree c.in-Concat.parts c.in-Concat.at))
