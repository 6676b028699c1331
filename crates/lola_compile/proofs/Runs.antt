-- A lowered net runs as its source does.
use Rattle.std.proofs.Common.{◌≡◌, ℕ, suc, ◌<◌, Bool, List, [], ◌∷◌, map, length, refl, sym, ◌∙◌, ap, ap₂, arith}
use Rattle.std.specs.List.{AllByRecursion}
use Rattle.lola_net.specs.declared.net.Net.{Net}
use Rattle.lola_net.specs.declared.net.Cycle.{Cycle as NetCycle}
use Rattle.lola_net.specs.Run.{cycle_of, net_run}
use Rattle.lola_flat.specs.Tree.{FlatTree}
use Rattle.lola_flat.specs.Cycle.{AreGiven, AreOutside, IsCycle, IsNext}
use Rattle.lola_lower.specs.Cycles.{HasCycles}
use Rattle.lola_lower.specs.Cycles as lowered
use Rattle.lola_tree.specs.Tree.{SourceTree}
use Rattle.lola_tree.specs.Value.{Values}
use Rattle.lola_tree.specs.design.Cycle.{IsState, IsGiven, Cycle, Next, Run, HasOneCycle}
use Rattle.lola_unfold.specs.Flat.{flat_design}
use Rattle.lola_meaning.specs.Tables.{given_of, outside_of, table_of, state_of}
use Rattle.lola_compile.specs.Bits.{input_bits, register_bits, output_bits, pad_bits}
use Rattle.lola_compile.specs.Runs.{shown, row, shown_run, RunsAs}

-- what a flat design is given and what it does are bit by bit what its source is given and does
pub record HaveSameBits (S : SourceTree) (order : List ℕ) : Type 0 where
  pub stored : (s inp : Values) → lowered.register_bits (flat_design S order) (given_of S s inp) ≡ register_bits S s
  pub entered : (s inp : Values) → AreGiven (flat_design S order) (given_of S s inp) → lowered.input_bits (flat_design S order) (given_of S s inp) ≡ input_bits S inp
  pub outer : (inp : Values) → lowered.outside_bits (flat_design S order) (outside_of S inp) ≡ pad_bits S order inp
  pub outputs : (v : Values) → lowered.output_bits (flat_design S order) (table_of S v) ≡ output_bits S v
  pub pads : (v : Values) → lowered.pad_bits (flat_design S order) (table_of S v) ≡ pad_bits S order v
  pub behind : (s : Values) → lowered.register_bits (flat_design S order) (state_of S s) ≡ register_bits S s

-- its cycles are those of the source
pub record AreFlat (S : SourceTree) (F : FlatTree) : Type 0 where
  pub given : (s inp : Values) → IsState S s → IsGiven S inp → AreGiven F (given_of S s inp)
  pub outside : (inp : Values) → IsGiven S inp → AreOutside F (outside_of S inp)
  pub cycle : (s inp v : Values) → IsState S s → IsGiven S inp → Cycle S s inp v → IsCycle F (given_of S s inp) (outside_of S inp) (table_of S v)
  pub next : (s inp v after : Values) → IsState S s → IsGiven S inp → Cycle S s inp v → Next S v after → IsNext F (table_of S v) (state_of S after)
  pub one : (s inp : Values) → IsState S s → IsGiven S inp → HasOneCycle S s inp

module _ (S : SourceTree) (order : List ℕ) (net : Net) (bits : HaveSameBits S order) (flat : AreFlat S (flat_design S order)) (has : HasCycles (flat_design S order) net) where
  abbrev F : FlatTree
  F = flat_design S order

  cycle_same : (s inp v after : Values) → IsState S s → IsGiven S inp → Cycle S s inp v → Next S v after → cycle_of net (register_bits S s) (input_bits S inp) (pad_bits S order inp) ≡ shown S order v after
  cycle_same s inp v after state given is next =
      let its = flat.given s inp state given in
      let same = has.each (given_of S s inp) (outside_of S inp) (table_of S v) (state_of S after) its (flat.outside inp given) (flat.cycle s inp v state given is) (flat.next s inp v after state given is next) in
      ap (λ (l : List Bool). cycle_of net l (input_bits S inp) (pad_bits S order inp)) (sym (bits.stored s inp))
      ∙ ap (λ (l : List Bool). cycle_of net (lowered.register_bits F (given_of S s inp)) l (pad_bits S order inp)) (sym (bits.entered s inp its))
      ∙ ap (λ (l : List Bool). cycle_of net (lowered.register_bits F (given_of S s inp)) (lowered.input_bits F (given_of S s inp)) l) (sym (bits.outer inp))
      ∙ same
      ∙ ap (λ (l : List Bool). record { outputs = l; pads = lowered.pad_bits F (table_of S v); next = lowered.register_bits F (state_of S after) }) (bits.outputs v)
      ∙ ap (λ (l : List Bool). record { outputs = output_bits S v; pads = l; next = lowered.register_bits F (state_of S after) }) (bits.pads v)
      ∙ ap (λ (l : List Bool). record { outputs = output_bits S v; pads = pad_bits S order v; next = l }) (bits.behind after)

  -- from cycle to cycle
  runs : (inputs : List Values) (s v : ℕ → Values) → IsState S (s 0) → AllByRecursion (IsGiven S) inputs → Run S inputs s v → net_run net (register_bits S (s 0)) (map (row S order) inputs) ≡ shown_run S order inputs s v
  runs [] s v state given run = refl
  runs (inp ∷ inputs) s v state (given, later) run =
      let first : 0 < suc (length inputs) = omega arith in
      let is : Cycle S (s 0) inp (v 0) = run.cycle 0 first in
      let next : Next S (v 0) (s 1) = run.next 0 first in
      let step = cycle_same (s 0) inp (v 0) (s 1) state given is next in
      let behind = (flat.one (s 0) inp state given).state (v 0) (s 1) is next in
      let more : Run S inputs (λ (c : ℕ). s (suc c)) (λ (c : ℕ). v (suc c)) = record {
        cycle = λ c less. run.cycle (suc c) (omega (arith, less));
        next = λ c less. run.next (suc c) (omega (arith, less));
      } in
      ap₂ (λ (k : NetCycle) (ks : List NetCycle). k ∷ ks) step
      (ap (λ (k : NetCycle). net_run net k.next (map (row S order) inputs)) step ∙ runs inputs (λ (c : ℕ). s (suc c)) (λ (c : ℕ). v (suc c)) behind later more)

  pub runs_as : RunsAs S order net
  runs_as = record { cycle = cycle_same; run = runs }
