use Rattle.std.proofs.Common.{◌≡◌, ◌++◌, drop, map}
use Rattle.tab_tree.specs.Table.{let_tree}
use Rattle.tab_tree.specs.Print.{lets_text}
use Rattle.tab_tree.proofs.class_text.push_lets.Given as goal

abbrev pub invariant-loop-row : goal.invariant-loop-row
invariant-loop-row l = l.out.items ++ lets_text (map let_tree (drop l.row-index l.rows)) ≡ l.fn.out.items ++ lets_text (map let_tree l.rows)
