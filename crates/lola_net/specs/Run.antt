-- What a net does in a cycle, and over cycles.
use Rattle.std.specs.Prelude.{Bool, false, cond, ◌&&◌, List, [], ◌∷◌, ◌++◌, drop, map, Option, Some, None}
use Rattle.std.specs.Option.{option_to_list}
use Rattle.lola_net.specs.declared.node.Node.{Node}
use Rattle.lola_net.specs.declared.node.Node.TheVariants.{Free, Latch, Pad, Gate}
use Rattle.lola_net.specs.declared.net.Net.{Net}
use Rattle.lola_net.specs.declared.net.Cycle.{Cycle}
use Rattle.lola_net.specs.Literals.{at_literal}

-- what comes into a cycle: the bits of the latches, of the free nodes, and from outside of the pads, each in the order of their nodes
pub record Sources : Type 0 where
  pub state : List Bool
  pub inputs : List Bool
  pub outside : List Bool

-- the first of some bits; a bit that is missing is false
abbrev pub first : List Bool → Bool
first [] = false
first (x ∷ more) = x

-- the value of a node: a free node has its input, a latch its state, a pad its own value where release is 0 and else its outside value, and a gate the `and` of its literals
abbrev pub value_of : Sources → List Bool → Node → Bool
value_of s so (Free name) = first s.inputs
value_of s so (Latch name next) = first s.state
value_of s so (Pad name value release) = cond (at_literal so release) (first s.outside) (at_literal so value)
value_of s so (Gate a b) = at_literal so a && at_literal so b

-- what is left for the nodes behind it
abbrev pub rest_of : Sources → Node → Sources
rest_of s (Free name) = record { state = s.state; inputs = drop 1 s.inputs; outside = s.outside }
rest_of s (Latch name next) = record { state = drop 1 s.state; inputs = s.inputs; outside = s.outside }
rest_of s (Pad name value release) = record { state = s.state; inputs = s.inputs; outside = drop 1 s.outside }
rest_of s (Gate a b) = s

-- the values of nodes in order, behind those of smaller nodes
abbrev pub values_after : Sources → List Bool → List Node → List Bool
values_after s so [] = so
values_after s so (x ∷ more) = values_after (rest_of s x) (so ++ value_of s so x ∷ []) more

-- the values of all nodes, from node 1 on
abbrev pub node_values : Sources → List Node → List Bool
node_values s nodes = values_after s [] nodes

-- a pad shows what it carries
abbrev pub pad_bit : Node → Bool → Option Bool
pad_bit (Free name) value = None
pad_bit (Latch name next) value = None
pad_bit (Pad name pad release) value = Some value
pad_bit (Gate a b) value = None

-- a latch takes the value of its next literal
abbrev pub next_bit : List Bool → Node → Bool → Option Bool
next_bit values (Free name) value = None
next_bit values (Latch name next) value = Some (at_literal values next)
next_bit values (Pad name pad release) value = None
next_bit values (Gate a b) value = None

-- the bits that nodes with their values give, in order
abbrev pub picked : (Node → Bool → Option Bool) → List Node → List Bool → List Bool
picked bit [] values = []
picked bit (x ∷ more) [] = []
picked bit (x ∷ more) (value ∷ values) = option_to_list (bit x value) ++ picked bit more values

-- what a net shows where its nodes have these values
abbrev pub shown : Net → List Bool → Cycle
shown net values = record {
  outputs = map (λ o. at_literal values o.1) net.outputs;
  pads = picked pad_bit net.nodes values;
  next = picked (next_bit values) net.nodes values;
}

-- a cycle of a net
abbrev pub cycle_of : Net → List Bool → List Bool → List Bool → Cycle
cycle_of net state inputs outside = shown net (node_values (record { state = state; inputs = inputs; outside = outside }) net.nodes)

-- the run of a net from a state on, over the inputs and outside values of each cycle: the next state of a cycle is the state of the one behind it
abbrev pub net_run : Net → List Bool → List (List Bool × List Bool) → List Cycle
net_run net state [] = []
net_run net state (row ∷ rows) = cycle_of net state row.0 row.1 ∷ net_run net (cycle_of net state row.0 row.1).next rows
