use Rattle.std.proofs.Common.{◌≡◌, drop, map}
use Rattle.lola_tree.specs.Tree.{stmt_tree}
use Rattle.lola_width.specs.WidthFaults.{body_widths}
use Rattle.lola_width.specs.Order.{first_after}
use Rattle.lola_width.specs.Table.{found, seen_in}
use Rattle.lola_width.proofs.width_stage.note_body_widths.Given as goal

abbrev pub invariant-loop-stmt : goal.invariant-loop-stmt
invariant-loop-stmt l = first_after l.first (body_widths (found l.table) (seen_in l.modules) (map stmt_tree (drop l.stmt-index l.body))) ≡ first_after l.fn.first (body_widths (found l.table) (seen_in l.modules) (map stmt_tree l.body))
