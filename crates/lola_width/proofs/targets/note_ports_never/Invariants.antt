use Rattle.std.proofs.Common.{◌≡◌, drop}
use Rattle.lola_width.specs.AssignmentFaults.{ports_never}
use Rattle.lola_width.specs.Order.{first_after}
use Rattle.lola_width.specs.Table.{taken_in}
use Rattle.lola_width.proofs.targets.note_ports_never.Given as goal

abbrev pub invariant-loop-port : goal.invariant-loop-port
invariant-loop-port l = first_after l.first (ports_never (taken_in l.targets) (drop l.port-index l.ports)) ≡ first_after l.fn.first (ports_never (taken_in l.targets) l.ports)
