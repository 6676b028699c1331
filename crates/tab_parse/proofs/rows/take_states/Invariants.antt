use Rattle.std.proofs.Common.{◌≡◌, ◌≤◌, false, List, [], length, map}
use Rattle.lola_parse.specs.Symbols.{Item}
use Rattle.tab_parse.specs.Placed.{StateAt, state_at}
use Rattle.tab_parse.specs.Grammar.{More, StateRow}
use Rattle.tab_parse.specs.Fronts.{at_name}
use Rattle.tab_parse.proofs.rows.take_states.Given as goal

-- what goes on with the rows so far completes them, and what completes them goes on with them
abbrev pub invariant-rows : goal.invariant-rows
invariant-rows l = record {
  shorter : length l.behind ≤ length l.fn.here;
  reads : (rows : List StateAt) (rest : List Item) → More StateRow (map state_at l.rows.items) l.behind rows rest → More StateRow [] l.fn.here rows rest;
  whole : (rows : List StateAt) (rest : List Item) → More StateRow [] l.fn.here rows rest → at_name rest ≡ false → More StateRow (map state_at l.rows.items) l.behind rows rest;
}

-- the tokens that are left
abbrev pub decreases-rows : goal.decreases-rows
decreases-rows l = length l.behind
