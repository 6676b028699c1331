use Rattle.std.proofs.Common.{◌≡◌, ◌≤◌, false, List, [], length, map}
use Rattle.lola_parse.specs.Symbols.{Item}
use Rattle.tab_parse.specs.Placed.{LetAt, let_at}
use Rattle.tab_parse.specs.Grammar.{More, LetRow}
use Rattle.tab_parse.specs.Fronts.{at_name}
use Rattle.tab_parse.proofs.rows.take_fields.Given as goal

-- what goes on with the rows so far completes them, and what completes them goes on with them
abbrev pub invariant-rows : goal.invariant-rows
invariant-rows l = record {
  shorter : length l.behind ≤ length l.fn.here;
  reads : (rows : List LetAt) (rest : List Item) → More LetRow (map let_at l.rows.items) l.behind rows rest → More LetRow [] l.fn.here rows rest;
  whole : (rows : List LetAt) (rest : List Item) → More LetRow [] l.fn.here rows rest → at_name rest ≡ false → More LetRow (map let_at l.rows.items) l.behind rows rest;
}

-- the tokens that are left
abbrev pub decreases-rows : goal.decreases-rows
decreases-rows l = length l.behind
