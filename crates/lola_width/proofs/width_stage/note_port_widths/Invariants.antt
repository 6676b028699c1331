use Rattle.std.proofs.Common.{◌≡◌, drop}
use Rattle.lola_width.specs.WidthFaults.{port_widths}
use Rattle.lola_width.specs.Order.{first_after}
use Rattle.lola_width.specs.Table.{found}
use Rattle.lola_width.proofs.width_stage.note_port_widths.Given as goal

abbrev pub invariant-loop-port : goal.invariant-loop-port
invariant-loop-port l = first_after l.first (port_widths (found l.table) (drop l.port-index l.ports)) ≡ first_after l.fn.first (port_widths (found l.table) l.ports)
