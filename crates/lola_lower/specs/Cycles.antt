-- The numbers of a flat design as the bits of its net, and that the cycles of both are the same.
use Rattle.std.specs.Prelude.{◌≡◌, ℕ, zero, suc, Bool, cond, nat_eq, List, [], ◌∷◌, ◌++◌, flat_map, get_or, Option, Some, None, slice_get}
use Rattle.lola_bits.specs.Number.{bit_at}
use Rattle.lola_net.specs.declared.net.Net.{Net}
use Rattle.lola_net.specs.Run.{cycle_of}
use Rattle.lola_flat.specs.Tree.{SignalTree, FlatTree}
use Rattle.lola_flat.specs.Cycle.{AreGiven, AreOutside, IsCycle, IsNext}
use Rattle.lola_lower.specs.Sources.{is_pad, is_wire, has_input, has_latch}
use Rattle.lola_lower.specs.Steps.{net_of}

-- the bits of a number, from the highest down to bit 0
abbrev pub bits_down : ℕ → ℕ → List Bool
bits_down zero n = []
bits_down (suc more) n = nat_eq (bit_at n more) 1 ∷ bits_down more n

-- the bits of a signal's elements, from element 0 on
abbrev pub element_bits : ℕ → List ℕ → List Bool
element_bits width elements = flat_map (bits_down width) elements

-- the bits of some signals, one behind another, and nothing of the others
abbrev pub bits_of : (SignalTree → Bool) → List SignalTree → List (List ℕ) → List Bool
bits_of among [] table = []
bits_of among (s ∷ signals) [] = []
bits_of among (s ∷ signals) (elements ∷ table) = cond (among s) (element_bits s.width elements) [] ++ bits_of among signals table

-- what a table gives to inputs and registers, in signal order
abbrev pub input_bits : FlatTree → List (List ℕ) → List Bool
input_bits F table = bits_of (has_input F) F.signals table

abbrev pub register_bits : FlatTree → List (List ℕ) → List Bool
register_bits F table = bits_of has_latch F.signals table

-- the bits of a signal by its number, where it is among some
abbrev pub bits_in : (SignalTree → Bool) → Option SignalTree → List ℕ → List Bool
bits_in among None elements = []
bits_in among (Some s) elements = cond (among s) (element_bits s.width elements) []

abbrev pub bits_at_number : (SignalTree → Bool) → FlatTree → List (List ℕ) → ℕ → List Bool
bits_at_number among F table n = bits_in among (slice_get F.signals n) (get_or table n [])

-- what a table gives to OUT ports, in the order of ports
abbrev pub output_bits : FlatTree → List (List ℕ) → List Bool
output_bits F table = flat_map (bits_at_number (λ (s : SignalTree). is_wire s.kind) F table) F.ports

-- and to pads, in the order of equations
abbrev pub pad_bits : FlatTree → List (List ℕ) → List Bool
pad_bits F table = flat_map (bits_at_number (λ (s : SignalTree). is_pad s.kind) F table) F.order

-- what comes from outside, one number for each pad, in the same order
abbrev pub outside_in : Option SignalTree → ℕ → List Bool
outside_in None n = []
outside_in (Some s) n = cond (is_pad s.kind) (bits_down s.width n) []

abbrev pub outside_bits : FlatTree → List ℕ → List Bool
outside_bits F outside = flat_map (λ (n : ℕ). outside_in (slice_get F.signals n) (get_or outside n 0)) F.order

-- in the bits of what a design is given, the net shows the bits of the design's cycle, and of the state behind it
pub record HasCycles (F : FlatTree) (net : Net) : Type 0 where
  pub each : (given : List (List ℕ)) (outside : List ℕ) (N after : List (List ℕ)) → AreGiven F given → AreOutside F outside → IsCycle F given outside N → IsNext F N after →
      cycle_of net (register_bits F given) (input_bits F given) (outside_bits F outside) ≡ record { outputs = output_bits F N; pads = pad_bits F N; next = register_bits F after }
