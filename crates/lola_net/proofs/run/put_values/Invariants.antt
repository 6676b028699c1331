use Rattle.std.proofs.Common.{◌≡◌, take, drop}
use Rattle.lola_net.specs.Run.{values_after, node_values}
use Rattle.lola_net.specs.Parts.{sources_of}
use Rattle.lola_net.proofs.run.put_values.Given as goal

abbrev pub invariant-loop-at : goal.invariant-loop-at
invariant-loop-at l = values_after (sources_of l.left) (take l.at l.room) (drop l.at l.nodes) ≡ node_values (sources_of l.fn.bits) l.nodes
