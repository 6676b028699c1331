use Rattle.std.proofs.Common.{◌≤◌, List, [], length, map}
use Rattle.lola_parse.specs.Symbols.{Item}
use Rattle.small_tree.specs.Table.{StateTree, state_tree}
use Rattle.small_read.specs.Grammar.{MoreStates}
use Rattle.small_read.specs.Read.{LacksName}
use Rattle.small_read.proofs.rows.take_states.Given as goal

-- what goes on with the states so far completes them, and what completes them goes on with them
abbrev pub invariant-states : goal.invariant-states
invariant-states l = record {
  shorter : length l.behind ≤ length l.fn.here;
  reads : (rows : List StateTree) (rest : List Item) → MoreStates (map state_tree l.states.items) l.behind rows rest → MoreStates [] l.fn.here rows rest;
  whole : (rows : List StateTree) (rest : List Item) → MoreStates [] l.fn.here rows rest → LacksName rest →
      MoreStates (map state_tree l.states.items) l.behind rows rest;
}

-- the tokens that are left
abbrev pub decreases-states : goal.decreases-states
decreases-states l = length l.behind
