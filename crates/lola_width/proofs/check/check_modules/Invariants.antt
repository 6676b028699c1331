use Rattle.std.proofs.Common.{◌≡◌, drop, map}
use Rattle.lola_tree.specs.Tree.{module_tree}
use Rattle.lola_width.specs.Order.{first_after}
use Rattle.lola_width.specs.Sized.{faults_from}
use Rattle.lola_width.specs.Table.{seen_in}
use Rattle.lola_width.proofs.check.check_modules.Given as goal

abbrev pub invariant-loop-module : goal.invariant-loop-module
invariant-loop-module l =
    first_after l.first (faults_from (seen_in l.modules) (map module_tree (drop l.module-index l.list)))
    ≡ first_after l.fn.first (faults_from (seen_in l.fn.modules) (map module_tree l.list))
