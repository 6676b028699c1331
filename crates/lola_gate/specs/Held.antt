-- How nodes are held: two numbers for each node, the others than gates apart, and a map from the literals of gates to their numbers.
use Rattle.std.specs.Prelude.{◌≡◌, ℕ, ◌+◌, ◌<◌, ◌^◌, true, cond, nat_lt, List, [], ◌∷◌, length, Option, Some, None}
use Rattle.lola_net.specs.declared.node.Node.{Node}
use Rattle.lola_net.specs.declared.node.Node.TheVariants.{Free, Latch, Pad, Gate}
use Rattle.lola_net.specs.Equations.{is_ordered}
use Rattle.lola_gate.specs.declared.other.Other.{Other}
use Rattle.lola_gate.specs.declared.other.Other.TheVariants as other
use Rattle.lola_gate.specs.Gates.{gates}

-- a node that is no gate; a latch has no next literal yet
abbrev pub node_of : Other → Node
node_of (other.Input name) = Free name
node_of (other.Register name) = Latch name 0
node_of (other.Pad name value release) = Pad name value release

abbrev pub first_other : List Other → Node
first_other [] = Free []
first_other (x ∷ more) = node_of x

abbrev pub later_others : List Other → List Other
later_others [] = []
later_others (x ∷ more) = more

-- two numbers of which the first is above 1 are a gate, and else the first of the others stands here
abbrev pub node_here : List Other → ℕ × ℕ → Node
node_here others p = cond (nat_lt 1 p.0) (Gate p.0 p.1) (first_other others)

abbrev pub others_behind : List Other → ℕ × ℕ → List Other
others_behind others p = cond (nat_lt 1 p.0) others (later_others others)

abbrev pub nodes_of : List Other → List (ℕ × ℕ) → List Node
nodes_of others [] = []
nodes_of others (p ∷ more) = node_here others p ∷ nodes_of (others_behind others p) more

-- how many of the held nodes are no gates
abbrev pub count_others : List (ℕ × ℕ) → ℕ
count_others [] = 0
count_others (p ∷ more) = cond (nat_lt 1 p.0) 0 1 + count_others more

-- the entries of the map are the gates in order, with their numbers
pub record Tied (held : List (ℕ × ℕ)) (others : List Other) (entries : List ((ℕ × ℕ) × ℕ)) : Type 0 where
  pub entries_are : entries ≡ gates (nodes_of others held)
  pub ordered : is_ordered (nodes_of others held) ≡ true
  pub counted : length others ≡ count_others held
  pub few : length held < 2 ^ 31

-- the literals of a gate as they are held
abbrev pub gate_by : Option (ℕ × ℕ) → Option (ℕ × ℕ)
gate_by None = None
gate_by (Some p) = cond (nat_lt 1 p.0) (Some (p.0, p.1)) None
