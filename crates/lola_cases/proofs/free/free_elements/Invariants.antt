use Rattle.std.proofs.Common.{◌≡◌, ◌++◌, drop, map}
use Rattle.lola_flat.specs.Tree.{flat_tree, signal_tree}
use Rattle.lola_cases.specs.Free.{free_from, free_elements}
use Rattle.lola_cases.proofs.free.free_elements.Given as goal

-- what is free so far, and of the signals that are left
abbrev pub invariant-loop-number : goal.invariant-loop-number
invariant-loop-number l = l.free.items ++ free_from (flat_tree l.flat) l.number (map signal_tree (drop l.number l.signals)) ≡ free_elements (flat_tree l.flat)
