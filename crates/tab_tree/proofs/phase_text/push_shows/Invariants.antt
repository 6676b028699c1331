use Rattle.std.proofs.Common.{◌≡◌, ◌++◌, drop, map, codes}
use Rattle.tab_tree.specs.Table.{set_tree}
use Rattle.tab_tree.specs.Print.{shows_text}
use Rattle.tab_tree.proofs.phase_text.push_shows.Given as goal

abbrev pub invariant-loop-row : goal.invariant-loop-row
invariant-loop-row l = l.out.items ++ shows_text l.before (map set_tree (drop l.row-index l.rows)) ≡ l.fn.out.items ++ shows_text (codes "SHOWS ") (map set_tree l.rows)
