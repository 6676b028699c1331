use Rattle.std.proofs.Common.{◌≡◌, drop, map}
use Rattle.lola_tree.specs.Tree.{actual_tree}
use Rattle.lola_tree.specs.Width.{scope_over}
use Rattle.lola_width.specs.WidthFaults.{args_widths}
use Rattle.lola_width.specs.Order.{first_after}
use Rattle.lola_width.specs.Table.{found}
use Rattle.lola_width.proofs.width_stage.note_arg_widths.Given as goal

abbrev pub invariant-loop-arg : goal.invariant-loop-arg
invariant-loop-arg l = first_after l.first (args_widths (scope_over (found l.table)) (map actual_tree (drop l.arg-index l.args)) l.rest) ≡ first_after l.fn.first (args_widths (scope_over (found l.table)) (map actual_tree l.args) l.pins)
