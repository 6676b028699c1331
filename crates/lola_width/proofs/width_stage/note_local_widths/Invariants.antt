use Rattle.std.proofs.Common.{◌≡◌, drop}
use Rattle.lola_width.specs.WidthFaults.{local_widths}
use Rattle.lola_width.specs.Order.{first_after}
use Rattle.lola_width.specs.Table.{found}
use Rattle.lola_width.proofs.width_stage.note_local_widths.Given as goal

abbrev pub invariant-loop-local : goal.invariant-loop-local
invariant-loop-local l = first_after l.first (local_widths (found l.table) (drop l.local-index l.locals)) ≡ first_after l.fn.first (local_widths (found l.table) l.locals)
