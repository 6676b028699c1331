use Rattle.std.proofs.Common.{◌≡◌, ◌++◌, drop, map}
use Rattle.tab_tree.specs.Table.{state_tree}
use Rattle.tab_tree.specs.Print.{states_text}
use Rattle.tab_tree.proofs.printing.push_states.Given as goal

abbrev pub invariant-loop-row : goal.invariant-loop-row
invariant-loop-row l = l.out.items ++ states_text (map state_tree (drop l.row-index l.rows)) ≡ l.fn.out.items ++ states_text (map state_tree l.rows)
