use Rattle.std.proofs.Common.{◌≡◌, ◌+◌, ◌≤◌, drop}
use Rattle.lola_net.specs.Counts.{count_of}
use Rattle.lola_net.specs.Parts.{kind_here}
use Rattle.lola_net.proofs.net.counted.Given as goal

abbrev pub invariant-loop-node : goal.invariant-loop-node
invariant-loop-node l = record {
  few : l.count ≤ l.node-index;
  counted : l.count + count_of (kind_here l.kind) (drop l.node-index l.nodes) ≡ count_of (kind_here l.kind) l.nodes;
}
