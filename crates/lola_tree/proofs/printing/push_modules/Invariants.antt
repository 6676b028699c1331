use Rattle.std.proofs.Common.{◌≡◌, ◌++◌, drop, map}
use Rattle.lola_tree.specs.Tree.{module_tree}
use Rattle.lola_tree.specs.Print.{modules_text}
use Rattle.lola_tree.proofs.printing.push_modules.Given as goal

abbrev pub invariant-loop-unit : goal.invariant-loop-unit
invariant-loop-unit l = l.out.items ++ modules_text (map module_tree (drop l.unit-index l.modules)) ≡ l.fn.out.items ++ modules_text (map module_tree l.modules)
