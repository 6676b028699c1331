-- The cycles of a source are those of its flat design.
use Rattle.std.proofs.Common.{◌≡◌, ◌≢◌, ℕ, zero, suc, ◌<◌, ◌≤◌, true, false, List, [], ◌∷◌, map, length, get_or, Option, Some, None, refl, sym, ◌∙◌, ap, subst, inl, inr, arith}
use Rattle.std.specs.Prelude.{slice_get}
use Rattle.std.proofs.lemmas.List.{length-map}
use Rattle.lola_bits.specs.Lists.{IsIn}
use Rattle.lola_bits.proofs.Lists.{from_map}
use Rattle.lola_bits.proofs.Options.{none_or_some}
use Rattle.lola_bits.proofs.Places.{get_in, get_map, from_get}
use Rattle.lola_alg.specs.Means.{number_in}
use Rattle.lola_flat.specs.declared.design.SigKind.TheVariants.{Pad, Wire}
use Rattle.lola_flat.specs.Tree.{SignalTree, FlatTree}
use Rattle.lola_flat.specs.Value.{Env, env}
use Rattle.lola_flat.specs.Value as flat_value
use Rattle.lola_flat.specs.Signals.{widths_of}
use Rattle.lola_flat.specs.Cycle.{IsValueOf, IsCycle}
use Rattle.lola_flat.proofs.OneCycle.{same_lists}
use Rattle.lola_tree.specs.declared.named.Shape.{Shape}
use Rattle.lola_tree.specs.declared.named.Shape.TheVariants.{Vector, Array}
use Rattle.lola_tree.specs.Names.{Names}
use Rattle.lola_tree.specs.Tree.{SourceTree}
use Rattle.lola_tree.specs.Value.{Path, Values}
use Rattle.lola_tree.specs.design.Signals.{Kind, clock, input, pad, wire, register, Signal, signals, signal_paths, elements}
use Rattle.lola_tree.specs.design.Equations.{Right, right_value, Equation, Update, updates}
use Rattle.lola_tree.specs.design.Cycle.{IsSignal, Suits, AreSame, IsState, IsGiven, Cycle}
use Rattle.lola_tree.specs.design.Chains.{right_paths, right_arrays, flat_equations}
use Rattle.lola_order.specs.Graph.{IsOrder}
use Rattle.lola_design.specs.Paths.{count, has_equation}
use Rattle.lola_design.specs.Graph.{right_of, design_graph}
use Rattle.lola_design.specs.Regular.{IsVector, AreRead, ReadsSuit, FitsType, IsRegular}
use Rattle.lola_design.proofs.Pads.{pads_flat}
use Rattle.lola_design.proofs.Graphs.{numbered}
use Rattle.lola_design.proofs.Derived.{fixed, equation_wires, are_equations, meets_all}
use Rattle.lola_design.proofs.Fits.{same_suits, all_suit}
use Rattle.lola_values.proofs.Known.{NumbersAll}
use Rattle.lola_unfold.specs.Flat.{flat_kind, flat_signal, flat_right, flat_rights, flat_design, equation_by, update_of, numbers_of}
use Rattle.lola_meaning.specs.Tables.{elements_of, shown_by, table_of, given_by, given_of, outside_by, outside_of, values_of, Has}
use Rattle.lola_meaning.specs.Typed.{AreTyped}
use Rattle.lola_meaning.proofs.Numbers.{get_is, values_long}
use Rattle.lola_meaning.proofs.Tables.{one, at_signal, number_is, at_table, table_has, has_own, right_means, vector_elements}
use Rattle.lola_meaning.proofs.Lookups.{equation_at, same_elements, from_elements}
use Rattle.lola_meaning.proofs.KindTests.{register_no_clock, input_no_clock, wired_no_register, wired_no_clock}
use Rattle.lola_meaning.proofs.Along.{along}

-- a value of a type, from its elements
pub typed_value : (names : Names) (type : Shape) (x : ℕ → ℕ) (n : ℕ) → IsVector type → x 0 ≡ n → FitsType names type n → Suits names type x
typed_value names (Vector width) x n is same fits = rw same fits
typed_value names (Array count_ width) x n is same fits = absurd is

module _ (S : SourceTree) (once : (x : Path) → count x (signal_paths S) ≤ 1) where
  -- what is read suits where all signals do
  pub reads_suit : (v : Values) → ((x : Signal) → IsIn x (signals S) → x.kind ≢ clock → Suits x.names x.type (v x.path)) → (vectors arrays : List Path) → AreRead S vectors arrays → ReadsSuit S vectors arrays v
  reads_suit v suits vectors arrays reads x there read = elim read [
    | inl as_vector ↦
        let r = reads.vector x.path as_vector in
        suits x there (subst (λ (t : Signal). t.kind ≢ clock) (one S once r.0 x r.1 there r.4) r.2)
    | inr as_array ↦
        let r = reads.array x.path as_array in
        suits x there (subst (λ (t : Signal). t.kind ≢ clock) (one S once r.0 x r.1.0 there r.3) (register_no_clock r.0.kind r.1.1))
  ]

module _ (S : SourceTree) (is : IsRegular S) (typed : AreTyped S) (numbers : NumbersAll) (once : (x : Path) → count x (signal_paths S) ≤ 1) (order : List ℕ) (ordered : IsOrder (design_graph S) order) where
  abbrev F : FlatTree
  F = flat_design S order

  -- an item of a table, by the number of a signal
  item : {X : Type 0} (f : Signal → X) (z : X) (n : ℕ) (x : Signal) → slice_get (signals S) n ≡ Some x → get_or (map f (signals S)) n z ≡ f x
  item f z n x at = get_is (map f (signals S)) n z (f x) (get_map f (signals S) n x at)

  module _ (s inp : Values) (state : IsState S s) (given : IsGiven S inp) where
    outer : (x : Signal) → IsSignal S pad x → get_or (outside_of S inp) (numbers_of S x.path) 0 ≡ inp x.path 0
    outer x there = at_table S once (λ (y : Signal). outside_by y.kind (inp y.path 0)) 0 x there.0 ∙ ap (λ (k : Kind). outside_by k (inp x.path 0)) there.1

    abbrev E : List (List ℕ) → Env ℕ
    E N = env N (outside_of S inp)

    -- the value of the equation of a signal, where what it reads suits
    value_of : (N : List (List ℕ)) (v : Values) → Has S N v → (x : Signal) → IsIn x (signals S) → (e : Equation) → IsIn e (flat_equations S) → e.left ≡ x.path → ReadsSuit S (right_paths e.right) (right_arrays e.right) v →
        flat_value.value (widths_of F) (E N) (flat_right (numbers_of S) e.right) ≡ right_value inp v e.right
    value_of N v has x there e said left suit =
        let t = typed.equations_have e said x there (sym left) in
        let within = (is.values.by_equation e said x there (sym left) inp v given.pads suit).1 in
        right_means S once numbers order N (outside_of S inp) inp v has outer t.0 e.right t.2 within

    -- a cycle of the source is one of the flat design
    module _ (v : Values) (c : Cycle S s inp v) where
      suits : (x : Signal) → IsIn x (signals S) → x.kind ≢ clock → Suits x.names x.type (v x.path)
      suits x there other = all_suit S is order ordered s inp state given v c x there other

      wire_value : (x : Signal) → IsIn x (signals S) → has_equation x.kind ≡ true → (e : Equation) → IsIn e (flat_equations S) → e.left ≡ x.path →
          elements_of v x ≡ flat_value.value (widths_of F) (E (table_of S v)) (flat_right (numbers_of S) e.right) ∷ []
      wire_value x there wired e said left =
          let reads = is.equation_reads e said in
          vector_elements v x.path x.names x.type (is.vectors x there (wired_no_register x.kind wired))
          ∙ ap (λ (n : ℕ). n ∷ [])
          (ap (λ (y : Path). v y 0) (sym left) ∙ meets_all S is s inp v c e said
          ∙ sym (value_of (table_of S v) v (table_has S once v) x there e said left (reads_suit S once v suits (right_paths e.right) (right_arrays e.right) reads)))

      by_kind : (x : Signal) → IsIn x (signals S) → (k : Kind) → x.kind ≡ k →
          IsValueOf F (E (table_of S v)) (flat_kind k) (equation_by k (right_of (flat_equations S) x.path) (update_of (updates S) x.path) (numbers_of S)) (given_by k (elements_of s x) (elements_of inp x)) (shown_by k (elements_of v x))
      by_kind x there clock kind = refl
      by_kind x there input kind = same_elements x.names x.type (v x.path) (inp x.path) (c.inputs x (there, kind))
      by_kind x there register kind = same_elements x.names x.type (v x.path) (s x.path) (c.registers x (there, kind))
      by_kind x there pad kind =
          let f = equation_at S is.assigned x there (ap has_equation kind) in
          subst (λ (o : Option Right). IsValueOf F (E (table_of S v)) Pad (flat_rights (numbers_of S) o) [] (elements_of v x)) (sym f.3) (wire_value x there (ap has_equation kind) f.0 f.1 f.2)
      by_kind x there wire kind =
          let f = equation_at S is.assigned x there (ap has_equation kind) in
          subst (λ (o : Option Right). IsValueOf F (E (table_of S v)) Wire (flat_rights (numbers_of S) o) [] (elements_of v x)) (sym f.3) (wire_value x there (ap has_equation kind) f.0 f.1 f.2)

      at_number : (n : ℕ) (x : Signal) → slice_get (signals S) n ≡ Some x →
          IsValueOf F (E (table_of S v)) (flat_signal S x).kind (flat_signal S x).equation (get_or (given_of S s inp) n []) (get_or (table_of S v) n [])
      at_number n x at =
          subst (λ (l : List ℕ). IsValueOf F (E (table_of S v)) (flat_signal S x).kind (flat_signal S x).equation l (get_or (table_of S v) n []))
          (sym (item (λ (y : Signal). given_by y.kind (elements_of s y) (elements_of inp y)) [] n x at))
          (subst (λ (l : List ℕ). IsValueOf F (E (table_of S v)) (flat_signal S x).kind (flat_signal S x).equation (given_by x.kind (elements_of s x) (elements_of inp x)) l)
          (sym (item (λ (y : Signal). shown_by y.kind (elements_of v y)) [] n x at))
          (by_kind x (get_in (signals S) n x at) x.kind refl))

      pub cycle_of_table : IsCycle F (given_of S s inp) (outside_of S inp) (table_of S v)
      cycle_of_table = record {
        long = length-map (signals S) (λ (y : Signal). shown_by y.kind (elements_of v y)) ∙ sym (length-map (signals S) (flat_signal S));
        each = λ n t at.
            let f = from_get (flat_signal S) (signals S) n t at in
            subst (λ (t : SignalTree). IsValueOf F (E (table_of S v)) t.kind t.equation (get_or (given_of S s inp) n []) (get_or (table_of S v) n [])) f.2 (at_number n f.0 f.1);
      }

    -- and a cycle of the flat design is one of the source
    module _ (N : List (List ℕ)) (c : IsCycle F (given_of S s inp) (outside_of S inp) N) where
      abbrev its : Signal → List ℕ
      its x = get_or N (numbers_of S x.path) []

      abbrev v : Values
      v = values_of S N

      valued : (x : Signal) → IsIn x (signals S) → IsValueOf F (E N) (flat_kind x.kind) (equation_by x.kind (right_of (flat_equations S) x.path) (update_of (updates S) x.path) (numbers_of S)) (given_by x.kind (elements_of s x) (elements_of inp x)) (its x)
      valued x there =
          let at = get_map (flat_signal S) (signals S) (numbers_of S x.path) x (at_signal S once x there) in
          subst (λ (l : List ℕ). IsValueOf F (E N) (flat_signal S x).kind (flat_signal S x).equation l (its x))
          (at_table S once (λ (y : Signal). given_by y.kind (elements_of s y) (elements_of inp y)) [] x there)
          (c.each (numbers_of S x.path) (flat_signal S x) at)

      clock_none : (x : Signal) → IsIn x (signals S) → x.kind ≡ clock → its x ≡ []
      clock_none x there kind =
          subst (λ (k : Kind). IsValueOf F (E N) (flat_kind k) (equation_by k (right_of (flat_equations S) x.path) (update_of (updates S) x.path) (numbers_of S)) (given_by k (elements_of s x) (elements_of inp x)) (its x)) kind (valued x there)

      input_same : (x : Signal) → IsIn x (signals S) → x.kind ≡ input → its x ≡ elements_of inp x
      input_same x there kind =
          subst (λ (k : Kind). IsValueOf F (E N) (flat_kind k) (equation_by k (right_of (flat_equations S) x.path) (update_of (updates S) x.path) (numbers_of S)) (given_by k (elements_of s x) (elements_of inp x)) (its x)) kind (valued x there)

      register_same : (x : Signal) → IsIn x (signals S) → x.kind ≡ register → its x ≡ elements_of s x
      register_same x there kind =
          subst (λ (k : Kind). IsValueOf F (E N) (flat_kind k) (equation_by k (right_of (flat_equations S) x.path) (update_of (updates S) x.path) (numbers_of S)) (given_by k (elements_of s x) (elements_of inp x)) (its x)) kind (valued x there)

      driven : (k : Kind) (r : Right) (o : Option Right) (u : Option Update) (given ns : List ℕ) → has_equation k ≡ true → o ≡ Some r → IsValueOf F (E N) (flat_kind k) (equation_by k o u (numbers_of S)) given ns →
          ns ≡ flat_value.value (widths_of F) (E N) (flat_right (numbers_of S) r) ∷ []
      driven clock r o u given ns wired e is = absurd (let f : false ≡ true = wired in cc)
      driven input r o u given ns wired e is = absurd (let f : false ≡ true = wired in cc)
      driven register r o u given ns wired e is = absurd (let f : false ≡ true = wired in cc)
      driven pad r o u given ns wired e is = subst (λ (o : Option Right). IsValueOf F (E N) Pad (flat_rights (numbers_of S) o) given ns) e is
      driven wire r o u given ns wired e is = subst (λ (o : Option Right). IsValueOf F (E N) Wire (flat_rights (numbers_of S) o) given ns) e is

      wire_same : (x : Signal) → IsIn x (signals S) → has_equation x.kind ≡ true → (e : Equation) → right_of (flat_equations S) x.path ≡ Some e.right → its x ≡ flat_value.value (widths_of F) (E N) (flat_right (numbers_of S) e.right) ∷ []
      wire_same x there wired e found =
          driven x.kind e.right (right_of (flat_equations S) x.path) (update_of (updates S) x.path) (given_by x.kind (elements_of s x) (elements_of inp x)) (its x) wired found (valued x there)

      one_long : (x : Signal) → IsIn x (signals S) → has_equation x.kind ≡ true → length (its x) ≡ elements x.names x.type
      one_long x there wired =
          let f = equation_at S is.assigned x there wired in
          ap (λ (l : List ℕ). length l) (wire_same x there wired f.0 f.3 ∙ sym (vector_elements (λ y n. flat_value.value (widths_of F) (E N) (flat_right (numbers_of S) f.0.right)) x.path x.names x.type (is.vectors x there (wired_no_register x.kind wired))))
          ∙ values_long (λ n. flat_value.value (widths_of F) (E N) (flat_right (numbers_of S) f.0.right)) (elements x.names x.type)

      long_by : (x : Signal) → IsIn x (signals S) → (k : Kind) → x.kind ≡ k → k ≢ clock → length (its x) ≡ elements x.names x.type
      long_by x there clock kind other = absurd (other refl)
      long_by x there input kind other = ap (λ (l : List ℕ). length l) (input_same x there kind) ∙ values_long (inp x.path) (elements x.names x.type)
      long_by x there register kind other = ap (λ (l : List ℕ). length l) (register_same x there kind) ∙ values_long (s x.path) (elements x.names x.type)
      long_by x there pad kind other = one_long x there (ap has_equation kind)
      long_by x there wire kind other = one_long x there (ap has_equation kind)

      pub has_values : Has S N (values_of S N)
      has_values x there other = has_own S once N x (long_by x there x.kind refl other)

      registers_same : (x : Signal) → IsSignal S register x → AreSame x.names x.type (v x.path) (s x.path)
      registers_same x there = from_elements x.names x.type (its x) (s x.path) (register_same x there.0 there.1)

      inputs_same : (x : Signal) → IsSignal S input x → AreSame x.names x.type (v x.path) (inp x.path)
      inputs_same x there = from_elements x.names x.type (its x) (inp x.path) (input_same x there.0 there.1)

      register_suits : (x : Signal) → IsSignal S register x → Suits x.names x.type (v x.path)
      register_suits x there = same_suits x.names x.type (v x.path) (s x.path) (registers_same x there) (state x there)

      input_suits : (x : Signal) → IsSignal S input x → Suits x.names x.type (v x.path)
      input_suits x there = same_suits x.names x.type (v x.path) (inp x.path) (inputs_same x there) (given.inputs x there)

      -- the equation of a signal is met where what it reads suits
      signal_of : (e : Equation) → IsIn e (flat_equations S) → (x : Signal) × IsIn x (signals S) × (e.left ≡ x.path)
      signal_of e said = from_map (λ (y : Signal). y.path) e.left (signals S) ((are_equations S is s inp).signals e said)

      meets_if : (e : Equation) → IsIn e (flat_equations S) → ReadsSuit S (right_paths e.right) (right_arrays e.right) v → v e.left 0 ≡ right_value inp v e.right
      meets_if e said suit =
          let x = signal_of e said in
          let wired = equation_wires S is s inp e said x.0 x.1 (sym x.2) in
          let f = equation_at S is.assigned x.0 x.1 wired in
          let same : f.0.right ≡ e.right = (numbered (flat_equations S) (fixed S is s inp) (signal_paths S) (are_equations S is s inp)).once f.0 e f.1 said (f.2 ∙ sym x.2) in
          ap (λ (y : Path). v y 0) x.2
          ∙ ap (λ (l : List ℕ). number_in l 0) (wire_same x.0 x.1 wired e (f.3 ∙ ap (λ (r : Right). Some r) same))
          ∙ value_of N v has_values x.0 x.1 e said x.2 suit

      -- so all suit, along the order
      abbrev SuitsAt : Path → Type 0
      SuitsAt y = (x : Signal) → IsIn x (signals S) → x.path ≡ y → Suits x.names x.type (v y)

      wire_suits : (e : Equation) → ((d : Equation) → IsIn d (flat_equations S) → IsIn d.left (right_paths e.right) → SuitsAt d.left) → (x : Signal) → IsIn x (signals S) → has_equation x.kind ≡ true →
          IsIn x.path (right_paths e.right) → Suits x.names x.type (v x.path)
      wire_suits e so x there wired read =
          let f = equation_at S is.assigned x there wired in
          subst (λ (y : Path). Suits x.names x.type (v y)) f.2 (so f.0 f.1 (subst (λ (y : Path). IsIn y (right_paths e.right)) (sym f.2) read) x there (sym f.2))

      read_suits : (e : Equation) → ((d : Equation) → IsIn d (flat_equations S) → IsIn d.left (right_paths e.right) → SuitsAt d.left) → (x : Signal) → IsIn x (signals S) → (k : Kind) → x.kind ≡ k → k ≢ clock →
          IsIn x.path (right_paths e.right) → Suits x.names x.type (v x.path)
      read_suits e so x there clock kind other read = absurd (other refl)
      read_suits e so x there input kind other read = input_suits x (there, kind)
      read_suits e so x there register kind other read = register_suits x (there, kind)
      read_suits e so x there pad kind other read = wire_suits e so x there (ap has_equation kind) read
      read_suits e so x there wire kind other read = wire_suits e so x there (ap has_equation kind) read

      step : (e : Equation) → IsIn e (flat_equations S) → ((d : Equation) → IsIn d (flat_equations S) → IsIn d.left (right_paths e.right) → SuitsAt d.left) → SuitsAt e.left
      step e said so x there same =
          let reads = is.equation_reads e said in
          let suit : ReadsSuit S (right_paths e.right) (right_arrays e.right) v = λ z z_there read. elim read [
            | inl as_vector ↦
                let r = reads.vector z.path as_vector in
                read_suits e so z z_there z.kind refl (subst (λ (t : Signal). t.kind ≢ clock) (one S once r.0 z r.1 z_there r.4) r.2) as_vector
            | inr as_array ↦
                let r = reads.array z.path as_array in
                register_suits z (subst (λ (t : Signal). IsSignal S register t) (one S once r.0 z r.1.0 z_there r.3) r.1)
          ] in
          let wired = equation_wires S is s inp e said x there same in
          typed_value x.names x.type (v e.left) (right_value inp v e.right) (is.vectors x there (wired_no_register x.kind wired)) (meets_if e said suit)
          (is.values.by_equation e said x there same inp v given.pads suit).0

      wired_suits : (x : Signal) → IsIn x (signals S) → has_equation x.kind ≡ true → Suits x.names x.type (v x.path)
      wired_suits x there wired =
          let f = equation_at S is.assigned x there wired in
          subst (λ (y : Path). Suits x.names x.type (v y)) f.2 (along S is order ordered SuitsAt step f.0 f.1 x there (sym f.2))

      suits_by : (x : Signal) → IsIn x (signals S) → (k : Kind) → x.kind ≡ k → k ≢ clock → Suits x.names x.type (v x.path)
      suits_by x there clock kind other = absurd (other refl)
      suits_by x there input kind other = input_suits x (there, kind)
      suits_by x there register kind other = register_suits x (there, kind)
      suits_by x there pad kind other = wired_suits x there (ap has_equation kind)
      suits_by x there wire kind other = wired_suits x there (ap has_equation kind)

      pub all_values_suit : (x : Signal) → IsIn x (signals S) → x.kind ≢ clock → Suits x.names x.type (v x.path)
      all_values_suit x there other = suits_by x there x.kind refl other

      pub cycle_from_table : Cycle S s inp (values_of S N)
      cycle_from_table = record {
        holds = (pads_flat S is.pads inp v).1 (λ e said. meets_if e said (reads_suit S once v all_values_suit (right_paths e.right) (right_arrays e.right) (is.equation_reads e said)));
        registers = registers_same;
        inputs = inputs_same;
      }

      -- and the table is that of its values
      shown_its : (x : Signal) → IsIn x (signals S) → (k : Kind) → x.kind ≡ k → shown_by k (elements_of v x) ≡ its x
      shown_its x there clock kind = sym (clock_none x there kind)
      shown_its x there input kind = sym (has_values x there (λ e. input_no_clock x.kind kind e))
      shown_its x there register kind = sym (has_values x there (λ e. register_no_clock x.kind kind e))
      shown_its x there pad kind = sym (has_values x there (wired_no_clock x.kind (ap has_equation kind)))
      shown_its x there wire kind = sym (has_values x there (wired_no_clock x.kind (ap has_equation kind)))

      at_place : (n : ℕ) (x : Signal) → slice_get (signals S) n ≡ Some x → get_or (table_of S v) n [] ≡ get_or N n []
      at_place n x at =
          item (λ (y : Signal). shown_by y.kind (elements_of v y)) [] n x at
          ∙ shown_its x (get_in (signals S) n x at) x.kind refl
          ∙ ap (λ (k : ℕ). get_or N k []) (number_is S once n x at)

      pub table_again : table_of S (values_of S N) ≡ N
      table_again = same_lists (table_of S v) N [] (length-map (signals S) (λ (y : Signal). shown_by y.kind (elements_of v y)) ∙ sym (length-map (signals S) (flat_signal S)) ∙ sym c.long)
          (λ n inside. at n (subst (λ (k : ℕ). n < k) (length-map (signals S) (λ (y : Signal). shown_by y.kind (elements_of v y))) inside))
        where
          at : (n : ℕ) → n < length (signals S) → get_or (table_of S v) n [] ≡ get_or N n []
          at n inside = elim (none_or_some (slice_get (signals S) n)) [
            | inl none ↦ absurd (is_there (signals S) n inside none)
            | inr found ↦ at_place n found.0 found.1
          ]
            where
              is_there : (xs : List Signal) (n : ℕ) → n < length xs → slice_get xs n ≡ None → ⊥
              is_there [] n inside none = omega arith
              is_there (x ∷ xs) zero inside none = let e : Some x ≡ None = none in cc
              is_there (x ∷ xs) (suc n) inside none = is_there xs n (omega arith) none
