use Rattle.std.proofs.Common.{◌≡◌, OnOk, ap, sym, ◌∙◌, subst, refl, arith}
use Rattle.std.proofs.lemmas.List.{drop_more}
use Rattle.lola_tree.specs.Tree.{Tree, tree, parts_tree, concat}
use Rattle.lola_tree.proofs.Parts.{concat_tree}
use Rattle.lola_width.specs.NameFaults.{expr_faults}
use Rattle.lola_width.specs.Order.{first_after}
use Rattle.lola_width.specs.Table.{found}
use Rattle.lola_width.proofs.Faults.{first_append}
use Rattle.lola_width.proofs.names.+names.Goals as goal

pub note_names-returns-in-Concat : goal.note_names-returns-in-Concat
note_names-returns-in-Concat t c =
    let e : tree c.args.expr.now ≡ concat (parts_tree c.items.result.now) c.in-Concat.at =
    ap tree c.in-Concat.is ∙ concat_tree c.in-Concat.parts c.in-Concat.at ∙ ap (λ ps. concat (parts_tree ps) c.in-Concat.at) (sym c.items.ensures) in
    subst (λ (x : Tree). OnOk c.note_parts.result (c.note_parts.new.first ≡ first_after c.args.first.now (expr_faults (found c.args.table.now) c.args.clock.now.name x)))
    (sym e) c.note_parts.ensures

pub note_parts-loop-part-preserved : goal.note_parts-loop-part-preserved
note_parts-loop-part-preserved t c =
    let cut = drop_more c.args.parts.now c.loop-part.part-index c.part-item.result (omega arith) in
    rw (c.in_ok-note_count.ensures, c.in_ok-note_names.ensures, ← c.loop-part.invariant, cut, ← c.part-item.is, first_append, first_append) refl
