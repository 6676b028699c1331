-- How a lowered net stands, so that it can be made again from what its text says: its ports by what they are, its nodes in their order, and each gate as `and` makes it.
use Rattle.std.specs.Prelude.{◌≡◌, ℕ, suc, ◌*◌, Bool, true, false, cond, List, [], ◌∷◌, ◌++◌, length, map, flat_map, Option, Some, None}
use Rattle.std.specs.Option.{option_to_list}
use Rattle.std.specs.List.{AllByRecursion}
use Rattle.lola_bits.specs.Lists.{IsIn}
use Rattle.lola_net.specs.declared.node.Node.{Node}
use Rattle.lola_net.specs.declared.node.Node.TheVariants.{Free, Latch, Pad, Gate}
use Rattle.lola_net.specs.declared.net.Net.{Net}
use Rattle.lola_gate.specs.Gates.{gates_calls, with_next}
use Rattle.lola_lower.specs.Named.{IsIdentifier, BitRun, run_names, IsRun, free_name, latch_name, pad_name}

-- what a port is
pub data Role : Type 0 where
  as_input : Role
  as_output : Role
  as_pad : Role
  as_clock : Role

abbrev pub is_input : Role → Bool
is_input as_input = true
is_input as_output = false
is_input as_pad = false
is_input as_clock = false

abbrev pub is_output : Role → Bool
is_output as_input = false
is_output as_output = true
is_output as_pad = false
is_output as_clock = false

abbrev pub is_pad : Role → Bool
is_pad as_input = false
is_pad as_output = false
is_pad as_pad = true
is_pad as_clock = false

abbrev pub is_clock : Role → Bool
is_clock as_input = false
is_clock as_output = false
is_clock as_pad = false
is_clock as_clock = true

-- a port is a vector of one role, or an element of one
pub record PortRun : Type 0 where
  pub role : Role
  pub run : BitRun

abbrev pub port_bits : PortRun → List (List ℕ)
port_bits p = run_names p.run

-- the names of ports of some roles
abbrev pub of_role : (Role → Bool) → List PortRun → List (List ℕ)
of_role among runs = flat_map (λ (p : PortRun). cond (among p.role) (port_bits p) []) runs

-- the clock has one bit
abbrev pub FitsRole : Role → ℕ → Type 0
FitsRole as_clock bits = bits ≡ 1
FitsRole as_input bits = Unit {0}
FitsRole as_output bits = Unit {0}
FitsRole as_pad bits = Unit {0}

abbrev pub IsPortRun : PortRun → Type 0
IsPortRun p = IsRun p.run × FitsRole p.role p.run.bits

-- the ports of a net are inputs, outputs, pads and the clock: inputs and outputs stand in the order of ports, and each pad is a node
pub record HasPorts (net : Net) : Type 0 where
  pub runs : List PortRun
  pub each : AllByRecursion IsPortRun runs
  pub ports : net.ports ≡ flat_map port_bits runs
  pub inputs : flat_map free_name net.nodes ≡ of_role is_input runs
  pub outputs : map (λ o. o.0) net.outputs ≡ of_role is_output runs
  pub pads : (name : List ℕ) → IsIn name (flat_map pad_name net.nodes) → IsIn name (of_role is_pad runs)
  pub all_pads : (name : List ℕ) → IsIn name (of_role is_pad runs) → IsIn name (flat_map pad_name net.nodes)
  pub clock : option_to_list net.clock ≡ of_role is_clock runs

-- kinds of nodes
abbrev pub is_free : Node → Bool
is_free (Free name) = true
is_free (Latch name next) = false
is_free (Pad name value release) = false
is_free (Gate a b) = false

abbrev pub is_latch : Node → Bool
is_latch (Free name) = false
is_latch (Latch name next) = true
is_latch (Pad name value release) = false
is_latch (Gate a b) = false

abbrev pub is_assigned : Node → Bool
is_assigned (Free name) = false
is_assigned (Latch name next) = false
is_assigned (Pad name value release) = true
is_assigned (Gate a b) = true

abbrev pub AreAll : (Node → Bool) → List Node → Type 0
AreAll test nodes = AllByRecursion (λ x. test x ≡ true) nodes

-- first the inputs, then the latches, then gates and pads
pub record StandInOrder (nodes : List Node) : Type 0 where
  pub frees : List Node
  pub latches : List Node
  pub others : List Node
  pub are : nodes ≡ frees ++ (latches ++ others)
  pub frees_only : AreAll is_free frees
  pub latches_only : AreAll is_latch latches
  pub others_only : AreAll is_assigned others

-- each gate is what `and` makes of its literals behind the nodes before it: no rule simplifies it, and no equal gate is there
abbrev pub IsShared : List Node → Node → Type 0
IsShared before (Free name) = Unit {0}
IsShared before (Latch name next) = Unit {0}
IsShared before (Pad name value release) = Unit {0}
IsShared before (Gate a b) = gates_calls.both before a b ≡ Some (before ++ Gate a b ∷ [], 2 * suc (length before))

abbrev pub AreShared : List Node → List Node → Type 0
AreShared before [] = Unit {0}
AreShared before (x ∷ more) = IsShared before x × AreShared (before ++ x ∷ []) more

-- a net stands as it was made: its nodes before their latches had next literals, and these; only a net with a clock has latches
pub record StandsAsMade (net : Net) : Type 0 where
  pub named : IsIdentifier net.name
  pub made : List Node
  pub next : List ℕ
  pub nodes : net.nodes ≡ with_next next made
  pub many : length next ≡ length (flat_map latch_name made)
  pub order : StandInOrder made
  pub shared : AreShared [] made
  pub ports : HasPorts net
  pub clocked : net.clock ≡ None → flat_map latch_name net.nodes ≡ []
