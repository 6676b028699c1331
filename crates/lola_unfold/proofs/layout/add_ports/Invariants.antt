use Rattle.std.proofs.Common.{◌≡◌, drop, flat_map}
use Rattle.lola_unfold.specs.Tables.{clocks_found}
use Rattle.lola_unfold.specs.Offsets.{laid_in, lay, port_items}
use Rattle.lola_unfold.proofs.layout.add_ports.Given as goal

abbrev pub invariant-loop-port : goal.invariant-loop-port
invariant-loop-port l = lay (laid_in l.layout) (flat_map (port_items (clocks_found l.clocks)) (drop l.port-index l.ports)) ≡ lay (laid_in l.fn.layout) (flat_map (port_items (clocks_found l.clocks)) l.ports)
