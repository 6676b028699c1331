use Rattle.std.proofs.Common.{◌≡◌, drop, map}
use Rattle.lola_tree.specs.Names.{constant}
use Rattle.lola_width.specs.NameFaults.{names_with_all, doubled_faults}
use Rattle.lola_width.specs.Order.{first_after}
use Rattle.lola_width.specs.Table.{found}
use Rattle.lola_width.proofs.declarations.declare_consts.Given as goal

abbrev pub invariant-loop-constant : goal.invariant-loop-constant
invariant-loop-constant l = record {
  table : names_with_all (found l.table) (map constant (drop l.constant-index l.consts)) ≡ names_with_all (found l.fn.table) (map constant l.consts);
  first : first_after l.first (doubled_faults (found l.table) (map constant (drop l.constant-index l.consts))) ≡ first_after l.fn.first (doubled_faults (found l.fn.table) (map constant l.consts));
}
