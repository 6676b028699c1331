use Rattle.std.proofs.Common.{◌≡◌, ◌++◌, drop, map}
use Rattle.tab_tree.specs.Table.{class_tree}
use Rattle.tab_tree.specs.Print.{classes_text}
use Rattle.tab_tree.proofs.printing.push_classes.Given as goal

abbrev pub invariant-loop-entry : goal.invariant-loop-entry
invariant-loop-entry l = l.out.items ++ classes_text (map class_tree (drop l.entry-index l.classes)) ≡ l.fn.out.items ++ classes_text (map class_tree l.classes)
