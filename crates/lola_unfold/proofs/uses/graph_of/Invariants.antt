use Rattle.std.proofs.Common.{◌≡◌, take, map}
use Rattle.lola_flat.specs.Tree.{signal_tree}
use Rattle.lola_unfold.specs.Flat.{flat_graph}
use Rattle.lola_unfold.proofs.uses.graph_of.Given as goal

abbrev pub invariant-loop-signal : goal.invariant-loop-signal
invariant-loop-signal l = l.graph.items ≡ flat_graph (map signal_tree (take l.signal-index l.signals))
