use Rattle.std.proofs.Common.{◌≡◌, ◌++◌, drop, map}
use Rattle.tab_tree.specs.Table.{phase_tree}
use Rattle.tab_tree.specs.Print.{phases_text}
use Rattle.tab_tree.proofs.class_text.push_phases.Given as goal

abbrev pub invariant-loop-phase : goal.invariant-loop-phase
invariant-loop-phase l = l.out.items ++ phases_text (map phase_tree (drop l.phase-index l.phases)) ≡ l.fn.out.items ++ phases_text (map phase_tree l.phases)
