use Rattle.std.proofs.Common.{◌≡◌, ◌++◌, drop, map, flat_map}
use Rattle.lola_flat.specs.Tree.{signal_tree}
use Rattle.lola_lower.specs.Sources.{latch_nodes}
use Rattle.lola_lower.proofs.sources.add_latches.Given as goal

-- the nodes so far, and those of the signals that are left
abbrev pub invariant-loop-signal : goal.invariant-loop-signal
invariant-loop-signal l = l.gates ++ flat_map latch_nodes (map signal_tree (drop l.signal-index l.signals)) ≡ l.fn.gates ++ flat_map latch_nodes (map signal_tree l.flat.signals)
