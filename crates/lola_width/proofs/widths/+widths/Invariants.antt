use Rattle.std.proofs.Common.{◌≡◌, drop}
use Rattle.lola_tree.specs.Tree.{parts_tree}
use Rattle.lola_tree.specs.Width.{scope_over, joined_width, total_width}
use Rattle.lola_width.specs.Capped.{capped_width}
use Rattle.lola_width.specs.WidthFaults.{part_widths}
use Rattle.lola_width.specs.Order.{first_after}
use Rattle.lola_width.specs.Table.{found}
use Rattle.lola_width.proofs.widths.+widths.Given as goal

abbrev pub invariant-note_part_widths-loop-part : goal.invariant-note_part_widths-loop-part
invariant-note_part_widths-loop-part l = record {
  capped : capped_width l.total ≡ l.total;
  width : capped_width (joined_width l.total (total_width (scope_over (found l.table)) (parts_tree (drop l.part-index l.parts))))
      ≡ capped_width (total_width (scope_over (found l.table)) (parts_tree l.parts));
  first : first_after l.first (part_widths (scope_over (found l.table)) (parts_tree (drop l.part-index l.parts)))
      ≡ first_after l.fn.first (part_widths (scope_over (found l.table)) (parts_tree l.parts));
}
