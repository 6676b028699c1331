use Rattle.std.proofs.Common.{◌≡◌, ◌++◌, drop}
use Rattle.lola_width.specs.Interface.{pins_of}
use Rattle.lola_width.specs.Table.{found}
use Rattle.lola_width.proofs.check.pins_of.Given as goal

abbrev pub invariant-loop-port : goal.invariant-loop-port
invariant-loop-port l = l.pins.items ++ pins_of (found l.table) l.clock.name (drop l.port-index l.ports) ≡ pins_of (found l.table) l.clock.name l.ports
