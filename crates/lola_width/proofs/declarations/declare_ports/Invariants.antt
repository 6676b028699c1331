use Rattle.std.proofs.Common.{◌≡◌, drop, map}
use Rattle.lola_tree.specs.Names.{port}
use Rattle.lola_width.specs.NameFaults.{names_with_all, doubled_faults}
use Rattle.lola_width.specs.Order.{first_after}
use Rattle.lola_width.specs.Table.{found}
use Rattle.lola_width.proofs.declarations.declare_ports.Given as goal

abbrev pub invariant-loop-port : goal.invariant-loop-port
invariant-loop-port l = record {
  table : names_with_all (found l.table) (map port (drop l.port-index l.ports)) ≡ names_with_all (found l.fn.table) (map port l.ports);
  first : first_after l.first (doubled_faults (found l.table) (map port (drop l.port-index l.ports))) ≡ first_after l.fn.first (doubled_faults (found l.fn.table) (map port l.ports));
}
