-- A net runs as a source does.
use Rattle.std.specs.Prelude.{◌≡◌, ℕ, suc, Bool, List, [], ◌∷◌, map}
use Rattle.std.specs.List.{AllByRecursion}
use Rattle.lola_net.specs.declared.net.Net.{Net}
use Rattle.lola_net.specs.declared.net.Cycle.{Cycle as NetCycle}
use Rattle.lola_net.specs.Run.{cycle_of, net_run}
use Rattle.lola_tree.specs.Tree.{SourceTree}
use Rattle.lola_tree.specs.Value.{Values}
use Rattle.lola_tree.specs.design.Cycle.{IsState, IsGiven, Cycle, Next, Run}
use Rattle.lola_compile.specs.Bits.{input_bits, register_bits, output_bits, pad_bits}

-- what a net shows of a cycle and of the state behind it: the bits of the outputs, of what pads carry, and of the
-- registers in that state
abbrev pub shown : SourceTree → List ℕ → (v after : Values) → NetCycle
shown S order v after = record { outputs = output_bits S v; pads = pad_bits S order v; next = register_bits S after }

-- what comes into a net in a cycle: the bits of the inputs, and those that come to the pads from outside
abbrev pub row : SourceTree → List ℕ → Values → List Bool × List Bool
row S order inp = (input_bits S inp, pad_bits S order inp)

-- what it shows of the cycles of a run, where these are the states and the valuations of the cycles
abbrev pub shown_run : SourceTree → List ℕ → List Values → (s v : ℕ → Values) → List NetCycle
shown_run S order [] s v = []
shown_run S order (inp ∷ inputs) s v = shown S order (v 0) (s 1) ∷ shown_run S order inputs (λ (c : ℕ). s (suc c)) (λ (c : ℕ). v (suc c))

-- from the bits of any state, on the bits of any inputs, the net runs as the source does: in each cycle its outputs,
-- its pads and the next state of its latches are the bits of the source's outputs, pads and registers
pub record RunsAs (S : SourceTree) (order : List ℕ) (net : Net) : Type 0 where
  pub cycle : (s inp v after : Values) → IsState S s → IsGiven S inp → Cycle S s inp v → Next S v after →
      cycle_of net (register_bits S s) (input_bits S inp) (pad_bits S order inp) ≡ shown S order v after
  pub run : (inputs : List Values) (s v : ℕ → Values) → IsState S (s 0) → AllByRecursion (IsGiven S) inputs → Run S inputs s v →
      net_run net (register_bits S (s 0)) (map (row S order) inputs) ≡ shown_run S order inputs s v
