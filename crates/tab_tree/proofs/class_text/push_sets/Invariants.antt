use Rattle.std.proofs.Common.{◌≡◌, ◌++◌, drop, map}
use Rattle.tab_tree.specs.Table.{set_tree}
use Rattle.tab_tree.specs.Print.{sets_text}
use Rattle.tab_tree.proofs.class_text.push_sets.Given as goal

abbrev pub invariant-loop-row : goal.invariant-loop-row
invariant-loop-row l = l.out.items ++ sets_text (map set_tree (drop l.row-index l.rows)) ≡ l.fn.out.items ++ sets_text (map set_tree l.rows)
