use Rattle.std.proofs.Common.{◌≤◌, List, [], length, map}
use Rattle.std.specs.Prelude.{codes}
use Rattle.lola_parse.specs.Symbols.{Item}
use Rattle.small_tree.specs.Table.{SetTree, set_tree}
use Rattle.small_read.specs.Grammar.{MoreSets}
use Rattle.small_read.specs.Read.{Lacks}
use Rattle.small_read.proofs.classes.take_sets.Given as goal

-- what goes on with the rows so far completes them, and what completes them goes on with them
abbrev pub invariant-rows : goal.invariant-rows
invariant-rows l = record {
  shorter : length l.behind ≤ length l.fn.here;
  reads : (rows : List SetTree) (rest : List Item) → MoreSets (map set_tree l.rows.items) l.behind rows rest → MoreSets [] l.fn.here rows rest;
  whole : (rows : List SetTree) (rest : List Item) → MoreSets [] l.fn.here rows rest → Lacks (codes "SET") rest →
      MoreSets (map set_tree l.rows.items) l.behind rows rest;
}

-- the tokens that are left
abbrev pub decreases-rows : goal.decreases-rows
decreases-rows l = length l.behind
