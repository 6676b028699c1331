use Rattle.std.proofs.Common.{◌≡◌, ℕ, List, drop, map}
use Rattle.tab_tree.specs.Table.{let_tree}
use Rattle.tab_tree.specs.Names.{with_rows}
use Rattle.tab_mach.specs.Known.{base_value, names_of}
use Rattle.tab_mach.specs.Begun.{AreGiven}
use Rattle.tab_mach.specs.Sound.{AreSound}
use Rattle.tab_mach.proofs.scope.with_rows.Given as goal

-- the names so far with the rows that are left are those with all rows
abbrev pub invariant-loop-row : goal.invariant-loop-row
invariant-loop-row l = record {
  value : with_rows (map let_tree (drop l.row-index l.rows)) (names_of l.known) ≡ with_rows (map let_tree l.rows) (names_of l.fn.known);
  sound : AreSound (names_of l.known);
  base : (name : List ℕ) → base_value l.known name ≡ base_value l.fn.known name;
  given : AreGiven l.fn.known.lets.items → AreGiven l.known.lets.items;
}
