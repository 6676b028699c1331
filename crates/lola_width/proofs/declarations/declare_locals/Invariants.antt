use Rattle.std.proofs.Common.{◌≡◌, drop, map}
use Rattle.lola_tree.specs.Names.{local}
use Rattle.lola_width.specs.NameFaults.{names_with_all, doubled_faults}
use Rattle.lola_width.specs.Order.{first_after}
use Rattle.lola_width.specs.Table.{found}
use Rattle.lola_width.proofs.declarations.declare_locals.Given as goal

abbrev pub invariant-loop-local : goal.invariant-loop-local
invariant-loop-local l = record {
  table : names_with_all (found l.table) (map local (drop l.local-index l.locals)) ≡ names_with_all (found l.fn.table) (map local l.locals);
  first : first_after l.first (doubled_faults (found l.table) (map local (drop l.local-index l.locals))) ≡ first_after l.fn.first (doubled_faults (found l.fn.table) (map local l.locals));
}
