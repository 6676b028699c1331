-- What a state and an input give to a flat design is what its cycles ask, and anything that they may be given is so.
use Rattle.std.proofs.Common.{◌≡◌, ◌≢◌, ℕ, zero, suc, ◌^◌, ◌<◌, ◌≤◌, true, false, List, [], ◌∷◌, map, length, get_or, Option, Some, None, refl, sym, ◌∙◌, ap, subst, inl, inr, arith}
use Rattle.std.specs.Prelude.{IsSome}
use Rattle.std.specs.List.{AllByRecursion}
use Rattle.std.proofs.lemmas.Bool.{cases_Bool, cond-true, cond-false}
use Rattle.std.proofs.lemmas.List.{length-map}
use Rattle.lola_bits.specs.Lists.{IsIn}
use Rattle.lola_bits.proofs.All.{all_append, all_of, of_all}
use Rattle.lola_bits.proofs.Places.{get_in, get_map, from_get}
use Rattle.lola_alg.specs.Means.{number_in}
use Rattle.lola_flat.specs.Numbers.{first_numbers}
use Rattle.lola_flat.specs.declared.design.SigKind.TheVariants.{Input, Pad, Wire, Register}
use Rattle.lola_flat.specs.Tree.{SignalTree, FlatTree}
use Rattle.lola_flat.specs.Value.{env, Read, vector_of, array_of, outside_of as read_outside, reads}
use Rattle.lola_flat.specs.Value as flat_value
use Rattle.lola_flat.specs.Signals.{widths_of, HaveSame, IsClock}
use Rattle.lola_flat.specs.Cycle.{IsGivenTo, AreGiven, AreOutside, IsValueOf, IsCycle}
use Rattle.lola_flat.proofs.SameReads.{value_same}
use Rattle.lola_order.specs.Graph.{IsOrder}
use Rattle.lola_tree.specs.declared.named.Shape.{Shape}
use Rattle.lola_tree.specs.declared.named.Shape.TheVariants.{Vector, Array}
use Rattle.lola_tree.specs.Names.{Names, first_name}
use Rattle.lola_tree.specs.Tree.{SourceTree}
use Rattle.lola_tree.specs.Value.{Path, Values}
use Rattle.lola_tree.specs.Cycle.{FitsIn}
use Rattle.lola_tree.specs.design.Signals.{Kind, clock, input, pad, wire, register, Signal, signals, signal_paths, elements}
use Rattle.lola_tree.specs.design.Equations.{Right, Equation, updates}
use Rattle.lola_tree.specs.design.Cycle.{Suits, AreSame, IsState, IsGiven}
use Rattle.lola_tree.specs.design.Chains.{flat_equations}
use Rattle.lola_design.specs.Paths.{path_eq, one_if, count, has_equation}
use Rattle.lola_design.specs.Graph.{right_of}
use Rattle.lola_design.specs.Regular.{IsVector, IsRegular}
use Rattle.lola_design.proofs.Fits.{same_suits}
use Rattle.lola_design.proofs.Found.{path_counts}
use Rattle.lola_design.proofs.OneSolution.{path_is}
use Rattle.lola_values.proofs.Known.{NumbersAll}
use Rattle.lola_unfold.specs.Flat.{flat_kind, flat_width, flat_right, flat_rights, equation_by, update_of, flat_signal, flat_graph, flat_design, numbers_of, clock_name}
use Rattle.lola_meaning.specs.Tables.{elements_of, given_by, given_of, outside_by, outside_of, values_of, kind_at, entered_by, input_of}
use Rattle.lola_meaning.specs.Typed.{HasWidth, AreTyped, ClockFits}
use Rattle.lola_meaning.proofs.Numbers.{get_is, map_last, number_later, values_long, read_back, same_values}
use Rattle.lola_meaning.proofs.Tables.{typed_vector, typed_array, count_is, one, at_signal, number_is, flat_at, at_table}
use Rattle.lola_meaning.proofs.Lookups.{equation_at}
use Rattle.lola_meaning.proofs.KindTests.{no_register, input_no_clock}
use Rattle.lola_meaning.proofs.RootPorts.{clock_path}
use Rattle.lola_meaning.proofs.ClockNames.{clock_there, clock_from}
use Rattle.lola_meaning.proofs.Formed.{IsReadHere, right_reads}

-- the values of a type are below 2 to its width, and as many as it has elements
map_below : (f : ℕ → ℕ) (limit n : ℕ) → ((k : ℕ) → k < n → f k < limit) → AllByRecursion (λ x. x < limit) (map f (first_numbers n))
map_below f limit zero each = tt
map_below f limit (suc n) each =
    subst (AllByRecursion (λ x. x < limit)) (sym (map_last f (first_numbers n) n))
    (all_append (λ x. x < limit) (map f (first_numbers n)) (f n ∷ []) (map_below f limit n (λ k less. each k (omega arith))) (each n (omega arith), tt))

module _ (numbers : NumbersAll) where
  suits_below : (names : Names) (type : Shape) (x : ℕ → ℕ) → HasWidth names type → Suits names type x → AllByRecursion (λ n. n < 2 ^ flat_width names type) (map x (first_numbers (elements names type)))
  suits_below names (Vector c) x has suits =
      let t = typed_vector names (Vector c) has.0 tt has.1 in
      (subst (λ (w : ℕ). x 0 < 2 ^ w) (sym t.width) (subst (λ (o : Option ℕ). FitsIn o (x 0)) has.1 suits), tt)
  suits_below names (Array n c) x has suits =
      let t = typed_array numbers names (Array n c) has.0 has.1 tt has.2 has.3 in
      map_below x (2 ^ flat_width names (Array n c)) (elements names (Array n c))
      (λ k less. subst (λ (w : ℕ). x k < 2 ^ w) (sym t.width) (subst (λ (o : Option ℕ). FitsIn o (x k)) has.2 (suits k less)))

  number_below : (l : List ℕ) (limit k : ℕ) → AllByRecursion (λ x. x < limit) l → k < length l → number_in l k < limit
  number_below [] limit k all inside = absurd (omega arith)
  number_below (x ∷ l) limit zero all inside = all.0
  number_below (x ∷ l) limit (suc k) all inside = subst (λ (n : ℕ). n < limit) (sym (number_later x l k)) (number_below l limit k all.1 (omega arith))

  below_suits : (names : Names) (type : Shape) (l : List ℕ) → HasWidth names type → length l ≡ elements names type → AllByRecursion (λ n. n < 2 ^ flat_width names type) l → Suits names type (number_in l)
  below_suits names (Vector c) l has long all =
      let t = typed_vector names (Vector c) has.0 tt has.1 in
      subst (λ (o : Option ℕ). FitsIn o (number_in l 0)) (sym has.1) (subst (λ (w : ℕ). number_in l 0 < 2 ^ w) t.width (number_below l (2 ^ flat_width names (Vector c)) 0 all (omega arith)))
  below_suits names (Array n c) l has long all =
      let t = typed_array numbers names (Array n c) has.0 has.1 tt has.2 has.3 in
      λ k less. subst (λ (o : Option ℕ). FitsIn o (number_in l k)) (sym has.2) (subst (λ (w : ℕ). number_in l k < 2 ^ w) t.width (number_below l (2 ^ flat_width names (Array n c)) k all (subst (λ (m : ℕ). k < m) (sym long) less)))

-- values that are the same everywhere
same_each : (names : Names) (type : Shape) (x y : ℕ → ℕ) → ((n : ℕ) → x n ≡ y n) → AreSame names type x y
same_each names (Vector c) x y same = same 0
same_each names (Array n c) x y same = λ k inside. same k

-- the kind of a path is that of its signal
pub kind_is : (xs : List Signal) (x : Signal) → count x.path (map (λ (y : Signal). y.path) xs) ≤ 1 → IsIn x xs → kind_at xs x.path ≡ x.kind
kind_is [] x once is = absurd is
kind_is (y ∷ ys) x once (inl same) =
    cond-true (path_eq y.path x.path) y.kind (kind_at ys x.path) (subst (λ (z : Signal). path_eq z.path x.path ≡ true) same (path_is x.path)) ∙ ap (λ (z : Signal). z.kind) (sym same)
kind_is (y ∷ ys) x once (inr later) = elim (cases_Bool (path_eq y.path x.path)) [
  | inl same ↦ absurd (let a : one_if (path_eq y.path x.path) ≡ 1 = rw same refl in let b = path_counts x ys later in omega arith)
  | inr other ↦
      let none : one_if (path_eq y.path x.path) ≡ 0 = rw other refl in
      cond-false (path_eq y.path x.path) y.kind (kind_at ys x.path) other ∙ kind_is ys x (omega arith) later
]

module _ (S : SourceTree) (is_regular : IsRegular S) (typed : AreTyped S) (numbers : NumbersAll) (once : (x : Path) → count x (signal_paths S) ≤ 1) (order : List ℕ) (clocked : ClockFits S) where
  abbrev F : FlatTree
  F = flat_design S order

  -- the clock of the flat design is the clock of the source, and no other signal is
  some_name : (o : Option (List ℕ)) → IsSome o → (name : List ℕ) × (o ≡ Some name)
  some_name None some = absurd (let e : false ≡ true = some in cc)
  some_name (Some name) some = (name, refl)

  is_clock : (x : Signal) → IsIn x (signals S) → x.kind ≡ clock → IsClock F (flat_signal S x)
  is_clock x there kind =
      let name = some_name (clock_name (signals S)) (clock_there (signals S) x there kind) in
      let y = clock_from (signals S) name.0 name.1 in
      let same : y.0 ≡ x = clocked.one y.0 x (y.1, y.2) (there, kind) in
      (name.0, (name.1, clock_path S (numbers_of S x.path) x (at_signal S once x there) kind name.0 (ap (λ (z : Signal). first_name z.path) (sym same) ∙ y.3)))

  not_clock : (x : Signal) → IsIn x (signals S) → x.kind ≢ clock → IsClock F (flat_signal S x) → ⊥
  not_clock x there other c =
      let y = clock_from (signals S) c.0 c.1.0 in
      let at = at_signal S once y.0 y.1 in
      let path : y.0.path ≡ c.0 ∷ [] = clock_path S (numbers_of S y.0.path) y.0 at y.2 c.0 y.3 in
      other (ap (λ (z : Signal). z.kind) (one S once x y.0 there y.1 (c.1.1 ∙ sym path)) ∙ y.2)

  -- what a state and an input give
  module _ (s inp : Values) (state : IsState S s) (given : IsGiven S inp) where
    by_kind : (x : Signal) → IsIn x (signals S) → (k : Kind) → x.kind ≡ k → IsGivenTo F (flat_signal S x) (flat_kind k) (given_by k (elements_of s x) (elements_of inp x))
    by_kind x there clock kind = (tt, (λ c. refl, λ other. absurd (other (is_clock x there kind))))
    by_kind x there input kind = (
      suits_below numbers x.names x.type (inp x.path) (typed.signals_have x there) (given.inputs x (there, kind)),
      (λ c. absurd (not_clock x there (input_no_clock x.kind kind) c), λ other. values_long (inp x.path) (elements x.names x.type) ∙ sym (count_is numbers x.names x.type (typed.signals_have x there))),
    )
    by_kind x there pad kind = tt
    by_kind x there wire kind = tt
    by_kind x there register kind = record {
      count = values_long (s x.path) (elements x.names x.type) ∙ sym (count_is numbers x.names x.type (typed.signals_have x there));
      below = suits_below numbers x.names x.type (s x.path) (typed.signals_have x there) (state x (there, kind));
    }

    pub are_given : AreGiven F (given_of S s inp)
    are_given = record {
      long = length-map (signals S) (λ (x : Signal). given_by x.kind (elements_of s x) (elements_of inp x)) ∙ sym (length-map (signals S) (flat_signal S));
      each = λ n t at.
          let f = from_get (flat_signal S) (signals S) n t at in
          let x = f.0 in
          subst (λ (t : SignalTree). IsGivenTo F t t.kind (get_or (given_of S s inp) n [])) f.2
          (subst (IsGivenTo F (flat_signal S x) (flat_signal S x).kind)
          (sym (get_is (given_of S s inp) n [] (given_by x.kind (elements_of s x) (elements_of inp x)) (get_map (λ (y : Signal). given_by y.kind (elements_of s y) (elements_of inp y)) (signals S) n x f.1)))
          (by_kind x (get_in (signals S) n x f.1) x.kind refl));
    }

  -- a value of a pad from outside
  pad_below : (inp : Values) → IsGiven S inp → (x : Signal) → IsIn x (signals S) → (k : Kind) → x.kind ≡ k → flat_kind k ≡ Pad → outside_by k (inp x.path 0) < 2 ^ flat_width x.names x.type
  pad_below inp given x there clock kind is = absurd (let e : Input ≡ Pad = is in cc)
  pad_below inp given x there input kind is = absurd (let e : Input ≡ Pad = is in cc)
  pad_below inp given x there wire kind is = absurd (let e : Wire ≡ Pad = is in cc)
  pad_below inp given x there register kind is = absurd (let e : Register ≡ Pad = is in cc)
  pad_below inp given x there pad kind is =
      vector_below x.names x.type (inp x.path) (is_regular.vectors x there (λ e. pad_no_register (sym kind ∙ e))) (typed.signals_have x there) (given.pads x (there, kind))
    where
      pad_no_register : pad ≡ register → ⊥
      pad_no_register e = no_register pad (λ none. none) e

      vector_below : (names : Names) (type : Shape) (x : ℕ → ℕ) → IsVector type → HasWidth names type → Suits names type x → x 0 < 2 ^ flat_width names type
      vector_below names (Vector c) x is has suits = (suits_below numbers names (Vector c) x has suits).0
      vector_below names (Array n c) x is has suits = absurd is

  pub are_outside : (inp : Values) → IsGiven S inp → AreOutside F (outside_of S inp)
  are_outside inp given = record {
    each = λ n t at is_pad.
        let f = from_get (flat_signal S) (signals S) n t at in
        let x = f.0 in
        subst (λ (k : ℕ). k < 2 ^ t.width) (sym (get_is (outside_of S inp) n 0 (outside_by x.kind (inp x.path 0)) (get_map (λ (y : Signal). outside_by y.kind (inp y.path 0)) (signals S) n x f.1)))
        (subst (λ (w : ℕ). outside_by x.kind (inp x.path 0) < 2 ^ w) (ap (λ (t : SignalTree). t.width) f.2)
        (pad_below inp given x (get_in (signals S) n x f.1) x.kind refl (ap (λ (t : SignalTree). t.kind) f.2 ∙ is_pad)));
  }

  -- and back: what a flat design is given is a state and an input
  module _ (given : List (List ℕ)) (outside : List ℕ) (are : AreGiven F given) (outer : AreOutside F outside) where
    abbrev s : Values
    s = values_of S given

    abbrev inp : Values
    inp = input_of S given outside

    abbrev its : Signal → List ℕ
    its x = get_or given (numbers_of S x.path) []

    given_to : (x : Signal) → IsIn x (signals S) → (k : Kind) → x.kind ≡ k → IsGivenTo F (flat_signal S x) (flat_kind k) (its x)
    given_to x there k kind = subst (λ (j : Kind). IsGivenTo F (flat_signal S x) (flat_kind j) (its x)) kind (are.each (numbers_of S x.path) (flat_signal S x) (flat_at S once x there))

    clock_empty : (x : Signal) → IsIn x (signals S) → x.kind ≡ clock → its x ≡ []
    clock_empty x there kind = (given_to x there clock kind).1.0 (is_clock x there kind)

    input_long : (x : Signal) → IsIn x (signals S) → x.kind ≡ input → length (its x) ≡ elements x.names x.type
    input_long x there kind = (given_to x there input kind).1.1 (not_clock x there (input_no_clock x.kind kind)) ∙ count_is numbers x.names x.type (typed.signals_have x there)

    register_long : (x : Signal) → IsIn x (signals S) → x.kind ≡ register → length (its x) ≡ elements x.names x.type
    register_long x there kind = (given_to x there register kind).count ∙ count_is numbers x.names x.type (typed.signals_have x there)

    kind_here : (x : Signal) → IsIn x (signals S) → kind_at (signals S) x.path ≡ x.kind
    kind_here x there = kind_is (signals S) x (once x.path) there

    input_same : (x : Signal) → IsIn x (signals S) → x.kind ≡ input → (n : ℕ) → inp x.path n ≡ number_in (its x) n
    input_same x there kind n = ap (λ (k : Kind). entered_by k (get_or outside (numbers_of S x.path) 0) (number_in (its x) n)) (kind_here x there ∙ kind)

    pad_same : (x : Signal) → IsIn x (signals S) → x.kind ≡ pad → (n : ℕ) → inp x.path n ≡ get_or outside (numbers_of S x.path) 0
    pad_same x there kind n = ap (λ (k : Kind). entered_by k (get_or outside (numbers_of S x.path) 0) (number_in (its x) n)) (kind_here x there ∙ kind)

    pub is_state : IsState S s
    is_state x there =
        below_suits numbers x.names x.type (its x) (typed.signals_have x there.0) (register_long x there.0 there.1) (given_to x there.0 register there.1).below

    pub is_given : IsGiven S inp
    is_given = record {
      inputs = λ x there.
          same_suits x.names x.type (inp x.path) (number_in (its x)) (same_each x.names x.type (inp x.path) (number_in (its x)) (input_same x there.0 there.1))
          (below_suits numbers x.names x.type (its x) (typed.signals_have x there.0) (input_long x there.0 there.1) (given_to x there.0 input there.1).0);
      pads = λ x there.
          pad_suits x.names x.type (inp x.path) (typed.signals_have x there.0) (is_regular.vectors x there.0 (λ e. no_register pad (λ none. none) (sym there.1 ∙ e)))
          (subst (λ (k : ℕ). k < 2 ^ flat_width x.names x.type) (sym (pad_same x there.0 there.1 0)) (outer.each (numbers_of S x.path) (flat_signal S x) (flat_at S once x there.0) (ap flat_kind there.1)));
    }
      where
        pad_suits : (names : Names) (type : Shape) (x : ℕ → ℕ) → HasWidth names type → IsVector type → x 0 < 2 ^ flat_width names type → Suits names type x
        pad_suits names (Vector c) x has is below =
            let t = typed_vector names (Vector c) has.0 tt has.1 in
            subst (λ (o : Option ℕ). FitsIn o (x 0)) (sym has.1) (subst (λ (w : ℕ). x 0 < 2 ^ w) t.width below)
        pad_suits names (Array n c) x has is below = absurd is

    -- a cycle that is given these is given what the state and the input give
    module _ (N : List (List ℕ)) (c : IsCycle F given outside N) (ordered : IsOrder (flat_graph (map (flat_signal S) (signals S))) order) where
      same_outer : (r : Read) → IsReadHere S is_regular typed numbers once order ordered clocked r → HaveSame (env N outside) (env N (outside_of S inp)) r
      same_outer (vector_of n) is = refl
      same_outer (array_of n) is = refl
      same_outer (read_outside n) is =
          let x = is.0 in
          subst (λ (k : ℕ). get_or outside k 0 ≡ get_or (outside_of S inp) k 0) (sym is.2)
          (sym (at_table S once (λ (y : Signal). outside_by y.kind (inp y.path 0)) 0 x is.1.0 ∙ ap (λ (k : Kind). outside_by k (inp x.path 0)) is.1.1 ∙ pad_same x is.1.0 is.1.1 0))

      wide_read : (r : Read) → HaveSame (widths_of F) (widths_of F) r
      wide_read (vector_of n) = refl
      wide_read (array_of n) = refl
      wide_read (read_outside n) = refl

      same_value : (x : Signal) → IsIn x (signals S) → (e : Equation) → IsIn e (flat_equations S) → e.left ≡ x.path →
          flat_value.value (widths_of F) (env N outside) (flat_right (numbers_of S) e.right) ≡ flat_value.value (widths_of F) (env N (outside_of S inp)) (flat_right (numbers_of S) e.right)
      same_value x there e said left =
          let t = typed.equations_have e said x there (sym left) in
          let f = flat_right (numbers_of S) e.right in
          value_same (widths_of F) (widths_of F) (env N outside) (env N (outside_of S inp)) f
          (all_of (HaveSame (widths_of F) (widths_of F)) (reads f) (λ r among. wide_read r))
          (all_of (HaveSame (env N outside) (env N (outside_of S inp))) (reads f)
          (λ r among. same_outer r (of_all (IsReadHere S is_regular typed numbers once order ordered clocked) r (reads f) (right_reads S is_regular typed numbers once order ordered clocked t.0 e.right t.2) among)))

      value_by : (x : Signal) → IsIn x (signals S) → (k : Kind) → x.kind ≡ k → (ns : List ℕ) →
          IsValueOf F (env N outside) (flat_kind k) (equation_by k (right_of (flat_equations S) x.path) (update_of (updates S) x.path) (numbers_of S)) (its x) ns →
          IsValueOf F (env N (outside_of S inp)) (flat_kind k) (equation_by k (right_of (flat_equations S) x.path) (update_of (updates S) x.path) (numbers_of S)) (given_by k (elements_of s x) (elements_of inp x)) ns
      value_by x there clock kind ns is = is ∙ clock_empty x there kind
      value_by x there input kind ns is =
          is ∙ sym (same_values (inp x.path) (number_in (its x)) (elements x.names x.type) (λ k inside. input_same x there kind k) ∙ read_back (its x) (elements x.names x.type) (input_long x there kind))
      value_by x there register kind ns is = is ∙ sym (read_back (its x) (elements x.names x.type) (register_long x there kind))
      value_by x there pad kind ns is =
          let f = equation_at S is_regular.assigned x there (ap has_equation kind) in
          subst (λ (o : Option Right). IsValueOf F (env N (outside_of S inp)) Pad (flat_rights (numbers_of S) o) [] ns) (sym f.3)
          (subst (λ (o : Option Right). IsValueOf F (env N outside) Pad (flat_rights (numbers_of S) o) (its x) ns) f.3 is ∙ ap (λ (n : ℕ). n ∷ []) (same_value x there f.0 f.1 f.2))
      value_by x there wire kind ns is =
          let f = equation_at S is_regular.assigned x there (ap has_equation kind) in
          subst (λ (o : Option Right). IsValueOf F (env N (outside_of S inp)) Wire (flat_rights (numbers_of S) o) [] ns) (sym f.3)
          (subst (λ (o : Option Right). IsValueOf F (env N outside) Wire (flat_rights (numbers_of S) o) (its x) ns) f.3 is ∙ ap (λ (n : ℕ). n ∷ []) (same_value x there f.0 f.1 f.2))

      pub same_cycle : IsCycle F (given_of S s inp) (outside_of S inp) N
      same_cycle = record {
        long = c.long;
        each = λ n t at.
            let f = from_get (flat_signal S) (signals S) n t at in
            let x = f.0 in
            let there = get_in (signals S) n x f.1 in
            let here = c.each n (flat_signal S x) (get_map (flat_signal S) (signals S) n x f.1) in
            let given_here : get_or given n [] ≡ its x = ap (λ (k : ℕ). get_or given k []) (sym (number_is S once n x f.1)) in
            subst (λ (t : SignalTree). IsValueOf F (env N (outside_of S inp)) t.kind t.equation (get_or (given_of S s inp) n []) (get_or N n [])) f.2
            (subst (λ (l : List ℕ). IsValueOf F (env N (outside_of S inp)) (flat_signal S x).kind (flat_signal S x).equation l (get_or N n []))
            (sym (get_is (given_of S s inp) n [] (given_by x.kind (elements_of s x) (elements_of inp x)) (get_map (λ (y : Signal). given_by y.kind (elements_of s y) (elements_of inp y)) (signals S) n x f.1)))
            (value_by x there x.kind refl (get_or N n [])
            (subst (λ (l : List ℕ). IsValueOf F (env N outside) (flat_signal S x).kind (flat_signal S x).equation l (get_or N n [])) given_here here)));
      }
