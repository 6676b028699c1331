use Rattle.std.proofs.Common.{◌≡◌, ◌++◌, map, drop}
use Rattle.lola_parse.specs.Design.{port_of}
use Rattle.lola_parse.proofs.module.add_ports.Given as goal

-- with the ports of the names that are left, all are there
abbrev pub invariant-loop-named : goal.invariant-loop-named
invariant-loop-named l = l.ports.items ++ map (port_of l.way l.shape) (drop l.named-index l.names) ≡ l.fn.ports.items ++ map (port_of l.way l.shape) l.names
