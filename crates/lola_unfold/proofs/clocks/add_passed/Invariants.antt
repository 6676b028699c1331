use Rattle.std.proofs.Common.{◌≡◌, drop, map}
use Rattle.lola_tree.specs.Tree.{actual_tree}
use Rattle.lola_tree.specs.design.Clocks.{passed_clocks}
use Rattle.lola_unfold.specs.Tables.{clocks_found, clocks_with}
use Rattle.lola_unfold.proofs.clocks.add_passed.Given as goal

abbrev pub invariant-loop-arg : goal.invariant-loop-arg
invariant-loop-arg l =
    clocks_with (clocks_found l.clocks) (passed_clocks l.rest (map actual_tree (drop l.arg-index l.args)))
    ≡ clocks_with (clocks_found l.fn.clocks) (passed_clocks l.ports (map actual_tree l.args))
