use Rattle.std.proofs.Common.{take, map, reverse}
use Rattle.lola_tree.specs.Tree.{module_tree}
use Rattle.lola_unfold.specs.Measured.{Knows}
use Rattle.lola_unfold.proofs.measure.known_of.Given as goal

abbrev pub invariant-loop-module : goal.invariant-loop-module
invariant-loop-module l = Knows l.known (reverse (map module_tree (take l.module-index l.modules)))
