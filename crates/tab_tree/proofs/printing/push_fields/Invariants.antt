use Rattle.std.proofs.Common.{◌≡◌, ◌++◌, drop, map, codes}
use Rattle.tab_tree.specs.Table.{let_tree}
use Rattle.tab_tree.specs.Print.{fields_text}
use Rattle.tab_tree.proofs.printing.push_fields.Given as goal

abbrev pub invariant-loop-row : goal.invariant-loop-row
invariant-loop-row l = l.out.items ++ fields_text l.before (map let_tree (drop l.row-index l.rows)) ≡ l.fn.out.items ++ fields_text (codes "FIELDS ") (map let_tree l.rows)
