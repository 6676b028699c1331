-- How the names and nodes of a lowered net stand.
use Rattle.std.specs.Prelude.{◌≡◌, ◌≢◌, ◌⊎◌, ℕ, ◌≤◌, List, [], ◌∷◌, ◌++◌, length, map, flat_map, filter, Option, Some, None, IfSome}
use Rattle.std.specs.List.{AllByRecursion}
use Rattle.lola_bits.specs.Lists.{IsIn, AreDistinct}
use Rattle.lola_net.specs.declared.node.Node.{Node}
use Rattle.lola_net.specs.declared.node.Node.TheVariants.{Free, Latch, Pad, Gate}
use Rattle.lola_net.specs.declared.net.Net.{Net}
use Rattle.lola_net.specs.Equations.{IsFormed}
use Rattle.lola_flat.specs.Tree.{SignalTree, FlatTree}
use Rattle.lola_lower.specs.Names.{names_down}

-- a letter or a digit
abbrev pub IsLetter : ℕ → Type 0
IsLetter b = ((65 ≤ b) × (b ≤ 90)) ⊎ ((97 ≤ b) × (b ≤ 122))

abbrev pub IsDigit : ℕ → Type 0
IsDigit b = (48 ≤ b) × (b ≤ 57)

-- a name of a source: a letter, and then letters and digits
abbrev pub IsIdentifier : List ℕ → Type 0
IsIdentifier [] = ⊥
IsIdentifier (b ∷ more) = IsLetter b × AllByRecursion (λ c. IsLetter c ⊎ IsDigit c) more

abbrev pub HasIdentifiers : FlatTree → Type 0
HasIdentifiers F = AllByRecursion (λ (s : SignalTree). AllByRecursion IsIdentifier s.path) F.signals

-- the names of nodes, kind by kind
abbrev pub free_name : Node → List (List ℕ)
free_name (Free name) = name ∷ []
free_name (Latch name next) = []
free_name (Pad name value release) = []
free_name (Gate a b) = []

abbrev pub latch_name : Node → List (List ℕ)
latch_name (Free name) = []
latch_name (Latch name next) = name ∷ []
latch_name (Pad name value release) = []
latch_name (Gate a b) = []

abbrev pub pad_name : Node → List (List ℕ)
pad_name (Free name) = []
pad_name (Latch name next) = []
pad_name (Pad name value release) = name ∷ []
pad_name (Gate a b) = []

-- the bits of a vector: what their names begin with, and how many there are
pub record BitRun : Type 0 where
  pub text : List ℕ
  pub bits : ℕ

abbrev pub run_names : BitRun → List (List ℕ)
run_names r = names_down r.text r.bits

-- a letter, and then letters, digits and `_`
abbrev pub IsStem : List ℕ → Type 0
IsStem [] = ⊥
IsStem (b ∷ more) = IsLetter b × AllByRecursion (λ c. (c ≡ 95) ⊎ (IsLetter c ⊎ IsDigit c)) more

abbrev pub IsRun : BitRun → Type 0
IsRun r = IsStem r.text × (1 ≤ r.bits)

-- names come in whole runs
pub record AreRuns (names : List (List ℕ)) : Type 0 where
  pub runs : List BitRun
  pub each : AllByRecursion IsRun runs
  pub are : names ≡ flat_map run_names runs

-- the names of a net: ports and registers have names of their own, each a vector's bit, its vectors whole and from the highest bit down; inputs, outputs and pads are ports, and each port is one of them or the clock
pub record HasBitNames (net : Net) : Type 0 where
  pub formed : IsFormed net
  pub distinct : AreDistinct (net.ports ++ flat_map latch_name net.nodes)
  pub ports : AreRuns net.ports
  pub latches : AreRuns (flat_map latch_name net.nodes)
  pub frees_in : AllByRecursion (λ name. IsIn name net.ports) (flat_map free_name net.nodes)
  pub outputs_in : AllByRecursion (λ o. IsIn o.0 net.ports) net.outputs
  pub pads_in : AllByRecursion (λ name. IsIn name net.ports) (flat_map pad_name net.nodes)
  pub once : AreDistinct (flat_map free_name net.nodes ++ (map (λ o. o.0) net.outputs ++ flat_map pad_name net.nodes))
  pub clock : IfSome net.clock (λ name. IsIn name net.ports × (IsIn name (flat_map free_name net.nodes ++ (map (λ o. o.0) net.outputs ++ flat_map pad_name net.nodes)) → ⊥))
