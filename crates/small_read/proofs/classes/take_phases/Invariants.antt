use Rattle.std.proofs.Common.{◌<◌, List, length, map}
use Rattle.std.specs.Prelude.{codes}
use Rattle.lola_parse.specs.Symbols.{Item}
use Rattle.small_tree.specs.Table.{PhaseTree, phase_tree}
use Rattle.small_read.specs.Grammar.{MorePhases}
use Rattle.small_read.specs.Read.{Lacks, Phases}
use Rattle.small_read.proofs.classes.take_phases.Given as goal

-- what goes on with the phases so far completes them, and what completes them goes on with them
abbrev pub invariant-phases : goal.invariant-phases
invariant-phases l = record {
  shorter : length l.behind < length l.fn.here;
  reads : (rows : List PhaseTree) (rest : List Item) → MorePhases (map phase_tree l.phases.items) l.behind rows rest → Phases l.fn.here rows rest;
  whole : (rows : List PhaseTree) (rest : List Item) → Phases l.fn.here rows rest → Lacks (codes "PHASE") rest →
      MorePhases (map phase_tree l.phases.items) l.behind rows rest;
}

-- the tokens that are left
abbrev pub decreases-phases : goal.decreases-phases
decreases-phases l = length l.behind
