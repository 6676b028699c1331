use Rattle.std.proofs.Common.{◌≡◌, ap, sym, ◌∙◌, refl, arith}
use Rattle.std.proofs.lemmas.List.{drop_more, drop_all}
use Rattle.lola_tree.specs.Tree.{tree, parts_tree, concat}
use Rattle.lola_tree.specs.Width.{scope_over, joined_width, checked_width, total_width, width}
use Rattle.lola_tree.proofs.Parts.{concat_tree}
use Rattle.lola_width.specs.Capped.{capped_width}
use Rattle.lola_width.specs.WidthFaults.{expr_widths, part_widths, wide}
use Rattle.lola_width.specs.Order.{first_after}
use Rattle.lola_width.specs.Table.{found}
use Rattle.lola_width.proofs.Capped.{capped_step, capped_twice, capped_checked, capped_wide, joined_last}
use Rattle.lola_width.proofs.Faults.{first_append}
use Rattle.lola_width.proofs.widths.+widths.Goals as goal

pub note_widths-returns-in-Concat-clause-width : goal.note_widths-returns-in-Concat-clause-width
note_widths-returns-in-Concat-clause-width t c =
    let e : tree c.args.expr.now ≡ concat (parts_tree c.items.result.now) c.in-Concat.at =
    ap tree c.in-Concat.is ∙ concat_tree c.in-Concat.parts c.in-Concat.at ∙ ap (λ ps. concat (parts_tree ps) c.in-Concat.at) (sym c.items.ensures) in
    c.fitting.ensures ∙ ap checked_width c.note_part_widths-total.ensures.width
    ∙ capped_checked (total_width (scope_over (found c.args.table.now)) (parts_tree c.items.result.now))
    ∙ ap (width (scope_over (found c.args.table.now))) (sym e)

pub note_widths-returns-in-Concat-clause-first : goal.note_widths-returns-in-Concat-clause-first
note_widths-returns-in-Concat-clause-first t c =
    let e : tree c.args.expr.now ≡ concat (parts_tree c.items.result.now) c.in-Concat.at =
    ap tree c.in-Concat.is ∙ concat_tree c.in-Concat.parts c.in-Concat.at ∙ ap (λ ps. concat (parts_tree ps) c.in-Concat.at) (sym c.items.ensures) in
    let total = total_width (scope_over (found c.args.table.now)) (parts_tree c.items.result.now) in
    let faults = part_widths (scope_over (found c.args.table.now)) (parts_tree c.items.result.now) in
    c.note_wide.ensures
    ∙ ap (first_after c.note_part_widths-total.new.first) (ap (wide c.in-Concat.at) c.note_part_widths-total.ensures.width ∙ capped_wide c.in-Concat.at total)
    ∙ ap (λ f. first_after f (wide c.in-Concat.at total)) c.note_part_widths-total.ensures.first
    ∙ sym (first_append c.args.first.now faults (wide c.in-Concat.at total))
    ∙ ap (λ x. first_after c.args.first.now (expr_widths (scope_over (found c.args.table.now)) x)) (sym e)

pub note_part_widths-returns-clause-width : goal.note_part_widths-returns-clause-width
note_part_widths-returns-clause-width t c =
    let none = drop_all c.loop-part.part-index c.args.parts.now (omega arith) in
    let total = total_width (scope_over (found c.args.table.now)) in
    sym c.loop-part.invariant.capped
    ∙ ap capped_width (sym (joined_last c.loop-part.total))
    ∙ ap (λ ps. capped_width (joined_width c.loop-part.total (total (parts_tree ps)))) (sym none)
    ∙ c.loop-part.invariant.width

pub note_part_widths-loop-part-preserved : goal.note_part_widths-loop-part-preserved
note_part_widths-loop-part-preserved t c =
    let cut = drop_more c.args.parts.now c.loop-part.part-index c.part-item.result (omega arith) in
    record {
      capped = rw c.joined_width-total.ensures (capped_twice _);
      width = rw (c.joined_width-total.ensures, c.repeated_width.ensures, capped_step, ← c.loop-part.invariant.width, cut, ← c.part-item.is, c.note_widths-width.ensures.width, c.count_number-times.ensures) refl;
      first = rw (c.note_never.ensures, c.note_widths-width.ensures.first, ← c.loop-part.invariant.first, cut, ← c.part-item.is, c.count_number-times.ensures, c.count_at.ensures) (simp first_append);
    }
