use Rattle.std.proofs.Common.{◌≡◌, ◌++◌, drop, map, flat_map}
use Rattle.lola_flat.specs.Tree.{flat_tree, signal_tree}
use Rattle.lola_lower.specs.Sources.{input_nodes}
use Rattle.lola_lower.proofs.sources.add_inputs.Given as goal

-- the nodes so far, and those of the signals that are left
abbrev pub invariant-loop-signal : goal.invariant-loop-signal
invariant-loop-signal l = l.gates ++ flat_map (input_nodes (flat_tree l.flat)) (map signal_tree (drop l.signal-index l.signals)) ≡ l.fn.gates ++ flat_map (input_nodes (flat_tree l.flat)) (map signal_tree l.flat.signals)
