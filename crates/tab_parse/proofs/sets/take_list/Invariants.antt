use Rattle.std.proofs.Common.{◌<◌, List, length, map}
use Rattle.lola_parse.specs.Symbols.{Item}
use Rattle.tab_parse.specs.Placed.{SetAt, set_at}
use Rattle.tab_parse.specs.Grammar.{More, NextSet, SetList}
use Rattle.tab_parse.specs.Fronts.{EndsList}
use Rattle.tab_parse.proofs.sets.take_list.Given as goal

-- what goes on with the rows so far completes them, and what completes them goes on with them
abbrev pub invariant-rows : goal.invariant-rows
invariant-rows l = record {
  shorter : length l.behind < length l.fn.here;
  reads : (rows : List SetAt) (rest : List Item) → More NextSet (map set_at l.rows.items) l.behind rows rest → SetList l.fn.here rows rest;
  whole : (rows : List SetAt) (rest : List Item) → SetList l.fn.here rows rest → EndsList rest → More NextSet (map set_at l.rows.items) l.behind rows rest;
}

-- the tokens that are left
abbrev pub decreases-rows : goal.decreases-rows
decreases-rows l = length l.behind
