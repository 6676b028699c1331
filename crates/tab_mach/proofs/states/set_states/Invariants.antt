use Rattle.std.proofs.Common.{◌≡◌, ◌++◌, drop, map}
use Rattle.tab_tree.specs.Table.{set_tree, state_tree}
use Rattle.tab_tree.specs.Step.{by_row, nth_value, set_value}
use Rattle.tab_mach.specs.Known.{names_of}
use Rattle.tab_mach.proofs.states.set_states.Given as goal

-- the states so far and those of the rows that are left are all
abbrev pub invariant-loop-number : goal.invariant-loop-number
invariant-loop-number l =
    l.after.items ++ by_row (λ n state. set_value (map set_tree l.rows) state (nth_value l.arch n) (names_of l.known)) l.number (map state_tree (drop l.number l.states))
    ≡ by_row (λ n state. set_value (map set_tree l.rows) state (nth_value l.arch n) (names_of l.known)) 0 (map state_tree l.states)
