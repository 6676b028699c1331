use Rattle.std.specs.Prelude.{codes}
use Rattle.std.proofs.Common.{◌≡◌, ◌≤◌, false, List, [], length, map}
use Rattle.lola_parse.specs.Symbols.{Item}
use Rattle.tab_parse.specs.Placed.{LetAt, let_at}
use Rattle.tab_parse.specs.Grammar.{More, LetLine}
use Rattle.tab_parse.specs.Fronts.{at_word}
use Rattle.tab_parse.specs.Fronts.{at_word}
use Rattle.tab_parse.proofs.sets.take_lets.Given as goal

-- what goes on with the rows so far completes them, and what completes them goes on with them
abbrev pub invariant-rows : goal.invariant-rows
invariant-rows l = record {
  shorter : length l.behind ≤ length l.fn.here;
  reads : (rows : List LetAt) (rest : List Item) → More LetLine (map let_at l.rows.items) l.behind rows rest → More LetLine [] l.fn.here rows rest;
  whole : (rows : List LetAt) (rest : List Item) → More LetLine [] l.fn.here rows rest → (at_word (codes "LET")) rest ≡ false → More LetLine (map let_at l.rows.items) l.behind rows rest;
}

-- the tokens that are left
abbrev pub decreases-rows : goal.decreases-rows
decreases-rows l = length l.behind
