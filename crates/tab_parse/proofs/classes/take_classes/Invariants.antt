use Rattle.std.proofs.Common.{◌≤◌, List, [], length, map}
use Rattle.lola_parse.specs.Symbols.{Item}
use Rattle.tab_parse.specs.Placed.{ClassAt, class_at}
use Rattle.tab_parse.specs.Grammar.{More, ClassRow}
use Rattle.lola_parse.specs.MayEnd.{Before}
use Rattle.lola_parse.specs.declared.symbol.Symbol.TheVariants as sym
use Rattle.tab_parse.proofs.classes.take_classes.Given as goal

-- what goes on with the rows so far completes them, and what completes them goes on with them
abbrev pub invariant-rows : goal.invariant-rows
invariant-rows l = record {
  shorter : length l.behind ≤ length l.fn.here;
  reads : (rows : List ClassAt) (rest : List Item) → More ClassRow (map class_at l.rows.items) l.behind rows rest → More ClassRow [] l.fn.here rows rest;
  whole : (rows : List ClassAt) (rest : List Item) → More ClassRow [] l.fn.here rows rest → Before sym.End rest → More ClassRow (map class_at l.rows.items) l.behind rows rest;
}

-- the tokens that are left
abbrev pub decreases-rows : goal.decreases-rows
decreases-rows l = length l.behind
