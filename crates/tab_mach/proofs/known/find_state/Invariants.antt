use Rattle.std.proofs.Common.{◌≡◌, drop, map}
use Rattle.tab_tree.specs.Table.{state_tree}
use Rattle.tab_tree.specs.Step.{state_value}
use Rattle.tab_mach.proofs.known.find_state.Given as goal

abbrev pub invariant-loop-place : goal.invariant-loop-place
invariant-loop-place l = state_value (map state_tree (drop l.place l.states)) (drop l.place l.arch) l.name ≡ state_value (map state_tree l.states) l.arch l.name
