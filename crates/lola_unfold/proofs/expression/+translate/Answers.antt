use Rattle.std.proofs.Common.{◌≡◌, ◌+◌, List, [], ◌∷◌, ◌++◌, drop, sym, ◌∙◌, ap, arith}
use Rattle.std.proofs.lemmas.List.{drop_all}
use Rattle.lola_bits.proofs.Places.{drop_item}
use Rattle.lola_tree.specs.Tree.{tree, parts_tree}
use Rattle.lola_tree.proofs.Parts.{concat_tree}
use Rattle.lola_flat.specs.declared.expr.FExpr.{FExpr}
use Rattle.lola_flat.specs.Tree.{ExprTree, ExprTrees, expr_tree, expr_trees, repeat, join, one_expr}
use Rattle.lola_width.specs.Table.{found}
use Rattle.lola_unfold.specs.Translated.{counted, translated, translated_parts}
use Rattle.lola_unfold.specs.Slots.{number_from}
use Rattle.lola_unfold.proofs.Rows.{followed, followed_push, followed_none}
use Rattle.lola_unfold.proofs.expression.+translate.Goals as goal

-- one part more
step : (made new : List FExpr) (e : FExpr) (value : ExprTree) (behind all : ExprTrees) → new ≡ made ++ e ∷ [] → expr_tree e ≡ value →
    followed (expr_trees made) (one_expr value behind) ≡ all → followed (expr_trees new) behind ≡ all
step made new e value behind all is same before =
    ap (λ (l : List FExpr). followed (expr_trees l) behind) is ∙ followed_push made e behind ∙ ap (λ (v : ExprTree). followed (expr_trees made) (one_expr v behind)) same ∙ before

pub translate_parts-loop-part-preserved : goal.translate_parts-loop-part-preserved
translate_parts-loop-part-preserved t c =
    let names = found c.args.names.now in
    let numbers = number_from c.args.base in
    let ps = c.args.parts.now in
    let cut : drop c.loop-part.part-index ps ≡ c.part-item.result ∷ drop (c.loop-part.part-index + 1) ps = drop_item ps c.loop-part.part-index c.part-item.result (omega arith) c.part-item.is in
    step c.loop-part.made c.push.new.self c.in_ok-repeat.field-0 (repeat (translated names numbers (tree c.part-item.result.value)) (counted names c.part-item.result.times))
    (translated_parts names numbers (parts_tree (drop (c.loop-part.part-index + 1) ps))) (translated_parts names numbers (parts_tree ps))
    c.in_ok-push.ensures.ok
    (c.in_ok-repeat.ensures ∙ ap (λ v. repeat v c.counted-times.result) c.in_ok-value.ensures ∙ ap (λ n. repeat (translated names numbers (tree c.part-item.result.value)) n) c.counted-times.ensures)
    (sym (ap (λ l. followed (expr_trees c.loop-part.made) (translated_parts names numbers (parts_tree l))) cut) ∙ c.loop-part.invariant)

pub translate_parts-returns : goal.translate_parts-returns
translate_parts-returns t c =
    let names = found c.args.names.now in
    let numbers = number_from c.args.base in
    sym (followed_none (expr_trees c.loop-part.made))
    ∙ sym (ap (λ ps. followed (expr_trees c.loop-part.made) (translated_parts names numbers (parts_tree ps))) (drop_all c.loop-part.part-index c.args.parts.now (omega arith)))
    ∙ c.loop-part.invariant

pub translate-returns-in_ok-translate_parts-in-Concat : goal.translate-returns-in_ok-translate_parts-in-Concat
translate-returns-in_ok-translate_parts-in-Concat t c =
    let names = found c.args.names.now in
    let numbers = number_from c.args.base in
    c.join.ensures ∙ ap join (c.in_ok-translate_parts-in-Concat.ensures ∙ ap (λ ps. translated_parts names numbers (parts_tree ps)) c.items-in-Concat.ensures)
    ∙ sym (ap (translated names numbers) (ap tree c.in-Concat.is ∙ concat_tree c.in-Concat.parts c.in-Concat.at))
