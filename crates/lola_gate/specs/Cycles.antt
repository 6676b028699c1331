-- Nodes in the making, and cycles of the net that is made of them.
use Rattle.std.specs.Prelude.{◌≡◌, ℕ, List}
use Rattle.lola_net.specs.declared.node.Node.{Node}
use Rattle.lola_net.specs.Literals.{at_node}
use Rattle.lola_net.specs.Run.{Sources, node_values}
use Rattle.lola_gate.specs.Gates.{values, with_next}

-- where the nodes that are no gates have their values in a cycle, the algebra's meaning of each node is its value in that cycle; and the next literals of latches make no difference in it
pub record HaveCycle (d : List Node) (s : Sources) : Type 0 where
  pub means : values (at_node (node_values s d)) d ≡ node_values s d
  pub next : (next : List ℕ) → node_values s (with_next next d) ≡ node_values s d
