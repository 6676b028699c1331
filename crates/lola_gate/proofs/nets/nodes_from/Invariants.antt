use Rattle.std.proofs.Common.{◌≡◌, ◌++◌, length, drop}
use Rattle.std.specs.Vec.Iter.{into_iter_items}
use Rattle.lola_gate.specs.Gates.{with_next}
use Rattle.lola_gate.specs.Held.{nodes_of, count_others}
use Rattle.lola_gate.proofs.nets.nodes_from.Given as goal

abbrev pub invariant-loop-pair : goal.invariant-loop-pair
invariant-loop-pair l = record {
  counted : length (into_iter_items l.rest) ≡ count_others (drop l.pair-index l.held);
  nodes : l.nodes.items ++ with_next l.left (nodes_of (into_iter_items l.rest) (drop l.pair-index l.held)) ≡ with_next l.next (nodes_of l.fn.others.items l.held);
}
