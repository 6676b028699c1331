use Rattle.std.proofs.Common.{◌≤◌, List, [], length, map}
use Rattle.lola_parse.specs.Symbols.{Item}
use Rattle.small_tree.specs.Table.{ClassTree, class_tree}
use Rattle.small_read.specs.Grammar.{MoreClasses}
use Rattle.small_read.specs.Read.{LacksClass}
use Rattle.small_read.proofs.classes.take_classes.Given as goal

-- what goes on with the classes so far completes them, and what completes them goes on with them
abbrev pub invariant-classes : goal.invariant-classes
invariant-classes l = record {
  shorter : length l.behind ≤ length l.fn.here;
  reads : (rows : List ClassTree) (rest : List Item) → MoreClasses (map class_tree l.classes.items) l.behind rows rest → MoreClasses [] l.fn.here rows rest;
  whole : (rows : List ClassTree) (rest : List Item) → MoreClasses [] l.fn.here rows rest → LacksClass rest →
      MoreClasses (map class_tree l.classes.items) l.behind rows rest;
}

-- the tokens that are left
abbrev pub decreases-classes : goal.decreases-classes
decreases-classes l = length l.behind
