use Rattle.std.proofs.Common.{◌≡◌, drop, map}
use Rattle.lola_tree.specs.Tree.{actual_tree}
use Rattle.lola_width.specs.NameFaults.{args_faults}
use Rattle.lola_width.specs.Order.{first_after}
use Rattle.lola_width.specs.Table.{found}
use Rattle.lola_width.proofs.statements.note_args.Given as goal

abbrev pub invariant-loop-arg : goal.invariant-loop-arg
invariant-loop-arg l =
    first_after l.first (args_faults (found l.table) l.clock.name (map actual_tree (drop l.arg-index l.args)) l.rest)
    ≡ first_after l.fn.first (args_faults (found l.table) l.clock.name (map actual_tree l.args) l.pins)
