-- The equations of a cycle, on the values of nodes by their numbers.
use Rattle.std.specs.Prelude.{◌≡◌, ◌<◌, ◌≤◌, ◌^◌, ℕ, suc, ◌/◌, Bool, true, false, cond, ◌&&◌, nat_lt, List, [], ◌∷◌, length, map}
use Rattle.std.specs.List.{AllByRecursion}
use Rattle.lola_net.specs.declared.node.Node.{Node}
use Rattle.lola_net.specs.declared.node.Node.TheVariants.{Free, Latch, Pad, Gate}
use Rattle.lola_net.specs.declared.net.Net.{Net}
use Rattle.lola_net.specs.declared.net.Cycle.{Cycle}
use Rattle.lola_net.specs.Literals.{at_node, literal_of}
use Rattle.lola_net.specs.Run.{Sources, first, rest_of, node_values, cycle_of}

-- what the value of a node is to be
abbrev pub due_value : Sources → (ℕ → Bool) → Node → Bool
due_value s v (Free name) = first s.inputs
due_value s v (Latch name next) = first s.state
due_value s v (Pad name value release) = cond (literal_of v release) (first s.outside) (literal_of v value)
due_value s v (Gate a b) = literal_of v a && literal_of v b

-- each node from a number on has its value
abbrev pub HoldFrom : ℕ → Sources → (ℕ → Bool) → List Node → Type 0
HoldFrom n s v [] = Unit {0}
HoldFrom n s v (x ∷ more) = (v n ≡ due_value s v x) × HoldFrom (suc n) (rest_of s x) v more

-- a cycle of nodes: node 0 is false, and each node has its value
pub record NetCycle (nodes : List Node) (s : Sources) (v : ℕ → Bool) : Type 0 where
  pub zero : v 0 ≡ false
  pub hold : HoldFrom 1 s v nodes

-- a node with a number uses only smaller nodes; a latch's next value may be any literal
abbrev pub uses_smaller : ℕ → Node → Bool
uses_smaller n (Free name) = true
uses_smaller n (Latch name next) = true
uses_smaller n (Pad name value release) = nat_lt (value / 2) n && nat_lt (release / 2) n
uses_smaller n (Gate a b) = nat_lt (a / 2) n && nat_lt (b / 2) n

abbrev pub ordered_from : ℕ → List Node → Bool
ordered_from n [] = true
ordered_from n (x ∷ more) = uses_smaller n x && ordered_from (suc n) more

-- each node uses only smaller ones
abbrev pub is_ordered : List Node → Bool
is_ordered nodes = ordered_from 1 nodes

-- the values of the nodes are a cycle, and the only one
pub record HasOneCycle (nodes : List Node) (s : Sources) : Type 0 where
  pub is : NetCycle nodes s (at_node (node_values s nodes))
  pub alone : (v : ℕ → Bool) → NetCycle nodes s v → (n : ℕ) → n ≤ length nodes → v n ≡ at_node (node_values s nodes) n

-- a latch's next literal is of a node up to a number, or a constant
abbrev pub NextWithin : ℕ → Node → Type 0
NextWithin count (Free name) = Unit {0}
NextWithin count (Latch name next) = next / 2 ≤ count
NextWithin count (Pad name value release) = Unit {0}
NextWithin count (Gate a b) = Unit {0}

-- a net is formed: its nodes have numbers that literals can hold, each uses only smaller ones, and next literals and outputs are literals of its nodes
pub record IsFormed (net : Net) : Type 0 where
  pub few : length net.nodes < 2 ^ 31
  pub ordered : is_ordered net.nodes ≡ true
  pub next : AllByRecursion (NextWithin (length net.nodes)) net.nodes
  pub outputs : AllByRecursion (λ o. o.1 / 2 ≤ length net.nodes) net.outputs

-- what pads carry, and the next values of latches, where nodes have these values by their numbers
abbrev pub pad_values : (ℕ → Bool) → ℕ → List Node → List Bool
pad_values v n [] = []
pad_values v n (Free name ∷ more) = pad_values v (suc n) more
pad_values v n (Latch name next ∷ more) = pad_values v (suc n) more
pad_values v n (Pad name value release ∷ more) = v n ∷ pad_values v (suc n) more
pad_values v n (Gate a b ∷ more) = pad_values v (suc n) more

abbrev pub next_values : (ℕ → Bool) → List Node → List Bool
next_values v [] = []
next_values v (Free name ∷ more) = next_values v more
next_values v (Latch name next ∷ more) = literal_of v next ∷ next_values v more
next_values v (Pad name value release ∷ more) = next_values v more
next_values v (Gate a b ∷ more) = next_values v more

-- what a net shows where its nodes have these values
abbrev pub shown_by : (ℕ → Bool) → Net → Cycle
shown_by v net = record { outputs = map (λ o. literal_of v o.1) net.outputs; pads = pad_values v 1 net.nodes; next = next_values v net.nodes }

-- whatever values solve the equations of a cycle, they are what the net shows in it
abbrev pub ShowsSolutions : Net → Type 0
ShowsSolutions net = (state inputs outside : List Bool) (v : ℕ → Bool) → NetCycle net.nodes (record { state = state; inputs = inputs; outside = outside }) v → cycle_of net state inputs outside ≡ shown_by v net
