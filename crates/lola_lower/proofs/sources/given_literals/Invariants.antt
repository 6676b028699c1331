use Rattle.std.proofs.Common.{◌≡◌, ◌++◌, ◌+◌, drop, map, flat_map, length}
use Rattle.lola_flat.specs.Tree.{flat_tree, signal_tree}
use Rattle.lola_lower.specs.Sources.{input_nodes, latch_nodes, given_from}
use Rattle.lola_lower.proofs.sources.given_literals.Given as goal

-- the rows so far, and those of the signals that are left
abbrev pub invariant-loop-signal : goal.invariant-loop-signal
invariant-loop-signal l = record {
  made : l.table.items ++ given_from (flat_tree l.flat) l.input l.latch (map signal_tree (drop l.signal-index l.signals)) ≡ given_from (flat_tree l.flat) 1 l.first (map signal_tree l.flat.signals);
  inputs : l.input + length (flat_map (input_nodes (flat_tree l.flat)) (map signal_tree (drop l.signal-index l.signals))) ≡ 1 + length (flat_map (input_nodes (flat_tree l.flat)) (map signal_tree l.flat.signals));
  latches : l.latch + length (flat_map latch_nodes (map signal_tree (drop l.signal-index l.signals))) ≡ l.first + length (flat_map latch_nodes (map signal_tree l.flat.signals));
}
