use Rattle.std.proofs.Common.{◌≡◌, ◌++◌, ap, sym, ◌∙◌, refl, codes, append_assoc}
use Rattle.lola_tree.specs.Tree.{tree, parts_tree}
use Rattle.lola_tree.specs.Print.{expr_text, parts_text}
use Rattle.lola_tree.proofs.Parts.{concat_tree}
use Rattle.lola_tree.proofs.expr_text.+print.Goals as goal

pub push_expr-returns-in_ok-extend_from_slice-in-Concat : goal.push_expr-returns-in_ok-extend_from_slice-in-Concat
push_expr-returns-in_ok-extend_from_slice-in-Concat t c =
    let text : expr_text (tree c.args.expr.now) ≡ parts_text (codes "{ ") (parts_tree c.in-Concat.parts) ++ codes "} " =
    ap (λ e. expr_text (tree e)) c.in-Concat.is ∙ ap expr_text (concat_tree c.in-Concat.parts c.in-Concat.at) in
    let made : c.extend_from_slice.new.self.items ≡ c.args.out.now.items ++ (parts_text (codes "{ ") (parts_tree c.in-Concat.parts) ++ codes "} ") =
    rw (c.in_ok-extend_from_slice-in-Concat.ensures.items, c.in_ok-push_parts-in-Concat.ensures, c.items.ensures, append_assoc) refl in
    made ∙ ap (λ xs. c.args.out.now.items ++ xs) (sym text)
