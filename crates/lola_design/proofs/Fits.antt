-- In a cycle from a state under an input each signal has a value of its type.
use Rattle.std.proofs.Common.{◌≡◌, ◌≢◌, ℕ, true, false, List, [], ◌∷◌, ◌++◌, map, Some, refl, sym, ◌∙◌, ap, subst, inl, inr, append_assoc}
use Rattle.std.specs.Prelude.{slice_get}
use Rattle.std.proofs.lemmas.List.{append-nil}
use Rattle.lola_bits.specs.Lists.{IsIn}
use Rattle.lola_bits.proofs.Lists.{but_last, to_map}
use Rattle.lola_tree.specs.declared.named.Shape.{Shape}
use Rattle.lola_tree.specs.declared.named.Shape.TheVariants.{Vector, Array}
use Rattle.lola_tree.specs.Names.{Names}
use Rattle.lola_tree.specs.Tree.{SourceTree}
use Rattle.lola_tree.specs.Value.{Path, Values}
use Rattle.lola_tree.specs.design.Signals.{Kind, clock, input, pad, wire, register, Signal, signals, signal_paths}
use Rattle.lola_tree.specs.design.Equations.{right_value}
use Rattle.lola_tree.specs.design.Cycle.{IsSignal, Suits, AreSame, IsState, IsGiven, Cycle}
use Rattle.lola_tree.specs.design.Chains.{right_paths, flat_equations}
use Rattle.lola_order.specs.Graph.{IsWanted, IsUse, ArePlaced, IsOrder}
use Rattle.lola_design.specs.Paths.{has_equation}
use Rattle.lola_design.specs.Graph.{number_of, design_graph}
use Rattle.lola_design.specs.Regular.{IsVector, FitsType, IsRegular}
use Rattle.lola_design.proofs.Paths.{paths_once}
use Rattle.lola_design.proofs.Found.{one_signal}
use Rattle.lola_design.proofs.Graphs.{at_number, entry_from, entry_of}
use Rattle.lola_design.proofs.Derived.{fixed, equation_of, equation_wires, are_equations, meets_all}

-- what is the same as a value of a type is one
pub same_suits : (names : Names) (type : Shape) (x y : ℕ → ℕ) → AreSame names type x y → Suits names type y → Suits names type x
same_suits names (Vector width) x y same fits = rw same fits
same_suits names (Array count width) x y same fits = λ n within. rw (same n within) (fits n within)

vector_suits : (names : Names) (type : Shape) (x : ℕ → ℕ) (n : ℕ) → IsVector type → x 0 ≡ n → FitsType names type n → Suits names type x
vector_suits names (Vector width) x n is same fits = rw same fits
vector_suits names (Array count width) x n is same fits = absurd is

module _ (S : SourceTree) (is : IsRegular S) (order : List ℕ) (ordered : IsOrder (design_graph S) order) (s inp : Values) (state : IsState S s) (given : IsGiven S inp) (v : Values) (c : Cycle S s inp v) where
  register_suits : (x : Signal) → IsSignal S register x → Suits x.names x.type (v x.path)
  register_suits x there = same_suits x.names x.type (v x.path) (s x.path) (c.registers x there) (state x there)

  input_suits : (x : Signal) → IsSignal S input x → Suits x.names x.type (v x.path)
  input_suits x there = same_suits x.names x.type (v x.path) (inp x.path) (c.inputs x there) (given.inputs x there)

  -- the signal of a number
  abbrev Fit : ℕ → Type 0
  Fit i = (x : Signal) → IsIn x (signals S) → slice_get (signal_paths S) i ≡ Some x.path → Suits x.names x.type (v x.path)

  one : (x y : Signal) → IsIn x (signals S) → IsIn y (signals S) → x.path ≡ y.path → x ≡ y
  one x y p q same = one_signal (signals S) x y (paths_once S is.names x.path) p q same

  number_at : (x : Signal) → IsIn x (signals S) → slice_get (signal_paths S) (number_of (signal_paths S) x.path) ≡ Some x.path
  number_at x there = at_number (signal_paths S) x.path (to_map (λ (y : Signal). y.path) x (signals S) there)

  wanted_wire : (x : Signal) → IsIn x (signals S) → has_equation x.kind ≡ true → IsWanted (design_graph S) (number_of (signal_paths S) x.path)
  wanted_wire x there wired =
      let e = equation_of S is s inp x there wired in
      subst (λ (y : Path). IsWanted (design_graph S) (number_of (signal_paths S) y)) e.2
      (record { uses = map (number_of (signal_paths S)) (right_paths e.0.right); equation = entry_of (flat_equations S) (fixed S is s inp) (signal_paths S) (are_equations S is s inp) e.0 e.1 })

  -- what a placed signal reads
  read_suits : (i : ℕ) (before : List ℕ) → ((j : ℕ) → IsUse (design_graph S) j i → IsWanted (design_graph S) j → IsIn j before) → ((j : ℕ) → IsIn j before → Fit j) →
      (z : Signal) → IsIn z (signals S) → (k : Kind) → z.kind ≡ k → k ≢ clock → IsUse (design_graph S) (number_of (signal_paths S) z.path) i → Suits z.names z.type (v z.path)
  read_suits i before met so z there clock kind other used = absurd (other refl)
  read_suits i before met so z there register kind other used = register_suits z (there, kind)
  read_suits i before met so z there input kind other used = input_suits z (there, kind)
  read_suits i before met so z there pad kind other used =
      so (number_of (signal_paths S) z.path) (met (number_of (signal_paths S) z.path) used (wanted_wire z there (ap has_equation kind))) z there (number_at z there)
  read_suits i before met so z there wire kind other used =
      so (number_of (signal_paths S) z.path) (met (number_of (signal_paths S) z.path) used (wanted_wire z there (ap has_equation kind))) z there (number_at z there)

  wire_kind : (k : Kind) → has_equation k ≡ true → k ≢ register
  wire_kind clock e = λ f. let g : false ≡ true = e in absurd cc
  wire_kind input e = λ f. let g : false ≡ true = e in absurd cc
  wire_kind register e = λ f. let g : false ≡ true = e in absurd cc
  wire_kind pad e = λ f. absurd (let g : has_equation pad ≡ has_equation register = ap has_equation f in let h : true ≡ false = g in cc)
  wire_kind wire e = λ f. absurd (let g : has_equation wire ≡ has_equation register = ap has_equation f in let h : true ≡ false = g in cc)

  -- the next one that is placed
  next_fits : (i : ℕ) (before : List ℕ) → IsWanted (design_graph S) i → ((j : ℕ) → IsUse (design_graph S) j i → IsWanted (design_graph S) j → IsIn j before) → ((j : ℕ) → IsIn j before → Fit j) → Fit i
  next_fits i before wanted met so y there at_i =
      let are = are_equations S is s inp in
      let f = entry_from (flat_equations S) (fixed S is s inp) (signal_paths S) are i wanted.uses wanted.equation in
      let e = f.0 in
      let same : y.path ≡ e.left = (let g : Some y.path ≡ Some e.left = sym at_i ∙ f.2 in cc) in
      let reads = is.equation_reads e f.1 in
      let meets = meets_all S is s inp v c e f.1 in
      let wired = equation_wires S is s inp e f.1 y there same in
      vector_suits y.names y.type (v y.path) (right_value inp v e.right) (is.vectors y there (wire_kind y.kind wired)) (ap (λ (x : Path). v x 0) same ∙ meets)
      ((is.values.by_equation e f.1 y there same inp v given.pads (λ z z_there read. elim read [
        | inl as_vector ↦
            let r = reads.vector z.path as_vector in
            let k = one z r.0 z_there r.1 (sym r.4) in
            let j = number_of (signal_paths S) z.path in
            let used : IsUse (design_graph S) j i = record { uses = wanted.uses; equation = wanted.equation; among = subst (λ (l : List ℕ). IsIn j l) (sym f.3) (to_map (number_of (signal_paths S)) z.path (right_paths e.right) as_vector) } in
            read_suits i before met so z z_there z.kind refl (subst (λ (t : Signal). t.kind ≢ clock) (sym k) r.2) used
        | inr as_array ↦
            let r = reads.array z.path as_array in
            register_suits z (subst (λ (t : Signal). IsSignal S register t) (sym (one z r.0 z_there r.1.0 (sym r.3))) r.1)
      ])).0)

  placed_fits : (before xs : List ℕ) → ArePlaced (design_graph S) before xs → ((j : ℕ) → IsIn j before → Fit j) → (j : ℕ) → IsIn j (before ++ xs) → Fit j
  placed_fits before [] placed so j there = so j (subst (λ (l : List ℕ). IsIn j l) (append-nil before) there)
  placed_fits before (i ∷ xs) placed so j there =
      let here = next_fits i before placed.0.ready.wanted placed.0.ready.met so in
      placed_fits (before ++ i ∷ []) xs placed.1 (λ k among. elim (but_last k i before among) [
        | inl same ↦ subst (λ (n : ℕ). Fit n) (sym same) here
        | inr early ↦ so k early
      ]) j (rw append_assoc there)

  by_kind : (x : Signal) → IsIn x (signals S) → (k : Kind) → x.kind ≡ k → k ≢ clock → Suits x.names x.type (v x.path)
  by_kind x there clock kind other = absurd (other refl)
  by_kind x there register kind other = register_suits x (there, kind)
  by_kind x there input kind other = input_suits x (there, kind)
  by_kind x there pad kind other =
      placed_fits [] order ordered.placed (λ j none. absurd none) (number_of (signal_paths S) x.path) (ordered.all (number_of (signal_paths S) x.path) (wanted_wire x there (ap has_equation kind))) x there (number_at x there)
  by_kind x there wire kind other =
      placed_fits [] order ordered.placed (λ j none. absurd none) (number_of (signal_paths S) x.path) (ordered.all (number_of (signal_paths S) x.path) (wanted_wire x there (ap has_equation kind))) x there (number_at x there)

  pub all_suit : (x : Signal) → IsIn x (signals S) → x.kind ≢ clock → Suits x.names x.type (v x.path)
  all_suit x there other = by_kind x there x.kind refl other
