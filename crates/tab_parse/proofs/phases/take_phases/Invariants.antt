use Rattle.std.proofs.Common.{◌≡◌, ◌<◌, false, List, length, map}
use Rattle.std.specs.Prelude.{codes}
use Rattle.lola_parse.specs.Symbols.{Item}
use Rattle.tab_parse.specs.Placed.{PhaseAt, phase_at}
use Rattle.tab_parse.specs.Grammar.{More, PhaseRow, PhaseList}
use Rattle.tab_parse.specs.Fronts.{at_word}
use Rattle.tab_parse.proofs.phases.take_phases.Given as goal

-- what goes on with the rows so far completes them, and what completes them goes on with them
abbrev pub invariant-rows : goal.invariant-rows
invariant-rows l = record {
  shorter : length l.behind < length l.fn.here;
  reads : (rows : List PhaseAt) (rest : List Item) → More PhaseRow (map phase_at l.rows.items) l.behind rows rest → PhaseList l.fn.here rows rest;
  whole : (rows : List PhaseAt) (rest : List Item) → PhaseList l.fn.here rows rest → at_word (codes "PHASE") rest ≡ false → More PhaseRow (map phase_at l.rows.items) l.behind rows rest;
}

-- the tokens that are left
abbrev pub decreases-rows : goal.decreases-rows
decreases-rows l = length l.behind
