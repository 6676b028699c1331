use Rattle.std.proofs.Common.{◌≡◌, ◌≤◌, false, List, [], length, map}
use Rattle.lola_parse.specs.Symbols.{Item}
use Rattle.tab_parse.specs.Placed.{SetAt, set_at}
use Rattle.tab_parse.specs.Grammar.{More, StartRow}
use Rattle.tab_parse.specs.Fronts.{at_name}
use Rattle.tab_parse.proofs.rows.take_starts.Given as goal

-- what goes on with the rows so far completes them, and what completes them goes on with them
abbrev pub invariant-rows : goal.invariant-rows
invariant-rows l = record {
  shorter : length l.behind ≤ length l.fn.here;
  reads : (rows : List SetAt) (rest : List Item) → More StartRow (map set_at l.rows.items) l.behind rows rest → More StartRow [] l.fn.here rows rest;
  whole : (rows : List SetAt) (rest : List Item) → More StartRow [] l.fn.here rows rest → at_name rest ≡ false → More StartRow (map set_at l.rows.items) l.behind rows rest;
}

-- the tokens that are left
abbrev pub decreases-rows : goal.decreases-rows
decreases-rows l = length l.behind
