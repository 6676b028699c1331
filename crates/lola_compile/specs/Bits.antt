-- The values of a source as the bits of its net.
use Rattle.std.specs.Prelude.{ℕ, Bool, List, [], ◌∷◌, flat_map, reverse, Option, Some, None, slice_get}
use Rattle.lola_flat.specs.Numbers.{first_numbers}
use Rattle.lola_lower.specs.Cycles.{bits_down}
use Rattle.lola_tree.specs.Tree.{ModuleTree, SourceTree}
use Rattle.lola_tree.specs.Names.{names_of}
use Rattle.lola_tree.specs.Value.{Values}
use Rattle.lola_tree.specs.design.Clocks.{clocks_in, clock_ports}
use Rattle.lola_tree.specs.design.Signals.{Kind, clock, input, pad, wire, register, Signal, signals, root_ports, elements}
use Rattle.lola_states.specs.States.{width_by}

-- the bits of a signal: of the values of its elements, from element 0 on, each from the highest bit down to bit 0
abbrev pub signal_bits : Values → Signal → List Bool
signal_bits v x = flat_map (λ (n : ℕ). bits_down (width_by x.names x.type) (v x.path n)) (first_numbers (elements x.names x.type))

-- those of a kind alone
abbrev pub if_input : Kind → List Bool → List Bool
if_input clock bits = []
if_input input bits = bits
if_input pad bits = []
if_input wire bits = []
if_input register bits = []

abbrev pub if_register : Kind → List Bool → List Bool
if_register clock bits = []
if_register input bits = []
if_register pad bits = []
if_register wire bits = []
if_register register bits = bits

abbrev pub if_wire : Kind → List Bool → List Bool
if_wire clock bits = []
if_wire input bits = []
if_wire pad bits = []
if_wire wire bits = bits
if_wire register bits = []

abbrev pub if_pad : Kind → List Bool → List Bool
if_pad clock bits = []
if_pad input bits = []
if_pad pad bits = bits
if_pad wire bits = []
if_pad register bits = []

-- the bits of the root's IN ports but the clock, and of all registers, in signal order
abbrev pub input_bits : SourceTree → Values → List Bool
input_bits S v = flat_map (λ (x : Signal). if_input x.kind (signal_bits v x)) (signals S)

abbrev pub register_bits : SourceTree → Values → List Bool
register_bits S v = flat_map (λ (x : Signal). if_register x.kind (signal_bits v x)) (signals S)

-- the ports of the root in text order; the modules stand in reverse order, the root first
abbrev pub ports_of : List ModuleTree → List Signal
ports_of [] = []
ports_of (m ∷ earlier) = root_ports (names_of m) (clocks_in (clock_ports earlier) m) m.ports

-- the bits of its OUT ports, in text order
abbrev pub output_bits : SourceTree → Values → List Bool
output_bits S v = flat_map (λ (x : Signal). if_wire x.kind (signal_bits v x)) (ports_of (reverse S.modules))

-- the bits of its pads, in an order of signals by their numbers
abbrev pub of_some : (Signal → List Bool) → Option Signal → List Bool
of_some bits None = []
of_some bits (Some x) = bits x

abbrev pub pad_bits : SourceTree → List ℕ → Values → List Bool
pad_bits S order v = flat_map (λ (n : ℕ). of_some (λ (x : Signal). if_pad x.kind (signal_bits v x)) (slice_get (signals S) n)) order
