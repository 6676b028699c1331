-- The nodes that a net has before its signals: inputs and registers, and the literals of their bits.
use Rattle.std.specs.Prelude.{ℕ, zero, suc, ◌+◌, ◌*◌, Bool, true, false, cond, not, ◌&&◌, nat_eq, bytes_eq, List, [], ◌∷◌, ◌++◌, length, map, flat_map, Option, Some, None}
use Rattle.lola_flat.specs.declared.design.SigKind.{SigKind}
use Rattle.lola_flat.specs.declared.design.SigKind.TheVariants.{Input, Pad, Wire, Register}
use Rattle.lola_flat.specs.Tree.{SignalTree, FlatTree}
use Rattle.lola_net.specs.declared.node.Node.{Node}
use Rattle.lola_net.specs.declared.node.Node.TheVariants.{Free, Latch}
use Rattle.lola_lower.specs.Names.{signal_names}

-- the clock is the signal whose path is its name alone
abbrev pub is_alone : List (List ℕ) → List ℕ → Bool
is_alone [] name = false
is_alone (first ∷ more) name = nat_eq (length more) 0 && bytes_eq first name

abbrev pub is_clock_path : Option (List ℕ) → List (List ℕ) → Bool
is_clock_path None path = false
is_clock_path (Some name) path = is_alone path name

-- which signals are inputs with a value, registers, pads, or driven by their equation alone
abbrev pub is_input : SigKind → Bool
is_input Input = true
is_input Pad = false
is_input Wire = false
is_input Register = false

abbrev pub is_register : SigKind → Bool
is_register Input = false
is_register Pad = false
is_register Wire = false
is_register Register = true

abbrev pub is_pad : SigKind → Bool
is_pad Input = false
is_pad Pad = true
is_pad Wire = false
is_pad Register = false

abbrev pub is_wire : SigKind → Bool
is_wire Input = false
is_wire Pad = false
is_wire Wire = true
is_wire Register = false

-- the clock has no node
abbrev pub has_input : FlatTree → SignalTree → Bool
has_input F s = is_input s.kind && not (is_clock_path F.clock s.path)

abbrev pub has_latch : SignalTree → Bool
has_latch s = is_register s.kind

-- a free node for each bit of an input, and a latch for each bit of a register; its next literal comes later
abbrev pub input_nodes : FlatTree → SignalTree → List Node
input_nodes F s = cond (has_input F s) (map (λ (name : List ℕ). Free name) (signal_names s)) []

abbrev pub latch_nodes : SignalTree → List Node
latch_nodes s = cond (has_latch s) (map (λ (name : List ℕ). Latch name 0) (signal_names s)) []

-- first the inputs and then the registers, each in signal order
abbrev pub all_inputs : FlatTree → List Node
all_inputs F = flat_map (input_nodes F) F.signals

abbrev pub all_latches : FlatTree → List Node
all_latches F = flat_map latch_nodes F.signals

abbrev pub source_nodes : FlatTree → List Node
source_nodes F = all_inputs F ++ all_latches F

-- the literals of so many bits, the lowest first, where their nodes have the numbers from one on and the highest bit comes first
abbrev pub bits_at : ℕ → ℕ → List ℕ
bits_at first zero = []
bits_at first (suc more) = 2 * (first + more) ∷ bits_at first more

-- and of elements, one behind another
abbrev pub elements_at : ℕ → ℕ → ℕ → List (List ℕ)
elements_at first width zero = []
elements_at first width (suc more) = bits_at first width ∷ elements_at (first + width) width more

-- what the signals have before their equations are made: inputs and registers the literals of their nodes, where the next of each have these numbers, and others nothing
abbrev pub given_row : FlatTree → (input latch : ℕ) → SignalTree → List (List ℕ)
given_row F input latch s = cond (has_input F s) (elements_at input s.width s.count) (cond (has_latch s) (elements_at latch s.width s.count) [])

abbrev pub given_from : FlatTree → (input latch : ℕ) → List SignalTree → List (List (List ℕ))
given_from F input latch [] = []
given_from F input latch (s ∷ signals) = given_row F input latch s ∷ given_from F (input + length (input_nodes F s)) (latch + length (latch_nodes s)) signals

abbrev pub given_literals : FlatTree → List (List (List ℕ))
given_literals F = given_from F 1 (suc (length (all_inputs F))) F.signals
