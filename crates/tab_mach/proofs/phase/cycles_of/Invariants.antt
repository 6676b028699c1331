use Rattle.std.proofs.Common.{◌≡◌, ◌+◌, drop, map}
use Rattle.tab_tree.specs.Table.{phase_tree}
use Rattle.tab_tree.specs.Step.{cycles_of}
use Rattle.tab_mach.proofs.phase.cycles_of.Given as goal

-- the cycles so far and those of the phases that are left are all
abbrev pub invariant-loop-phase : goal.invariant-loop-phase
invariant-loop-phase l = l.cycles + cycles_of (map phase_tree (drop l.phase-index l.phases)) ≡ cycles_of (map phase_tree l.phases)
