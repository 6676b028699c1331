use Rattle.std.proofs.Common.{◌≡◌, drop, map}
use Rattle.lola_tree.specs.Tree.{actual_tree}
use Rattle.lola_width.specs.Interface.{args_clock}
use Rattle.lola_width.specs.Table.{found}
use Rattle.lola_width.proofs.clock.args_clock.Given as goal

abbrev pub invariant-loop-arg : goal.invariant-loop-arg
invariant-loop-arg l = args_clock (found l.table) (map actual_tree (drop l.arg-index l.args)) l.rest ≡ args_clock (found l.table) (map actual_tree l.args) l.pins
