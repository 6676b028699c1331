-- What stands behind a cycle of the flat design is what stands behind that of the source.
use Rattle.std.proofs.Common.{◌≡◌, ◌≢◌, ℕ, ◌<◌, ◌≤◌, true, false, cond, List, [], ◌∷◌, map, length, get_or, Option, Some, None, refl, sym, ◌∙◌, ap, ap₂, subst, inl, inr, arith}
use Rattle.std.specs.Prelude.{nat_eq}
use Rattle.std.proofs.lemmas.Bool.{cases_lt, cond-false}
use Rattle.std.proofs.lemmas.Bool.Decides.{nat_tests}
use Rattle.std.proofs.lemmas.List.{length-map}
use Rattle.lola_bits.specs.Lists.{IsIn}
use Rattle.lola_bits.proofs.Places.{get_in, get_map, from_get}
use Rattle.lola_alg.specs.Means.{number_in, with_number}
use Rattle.lola_flat.specs.Numbers.{first_numbers}
use Rattle.lola_flat.specs.Tree.{SignalTree, FlatTree}
use Rattle.lola_flat.specs.Value.{Env, env}
use Rattle.lola_flat.specs.Value as flat_value
use Rattle.lola_flat.specs.Signals.{widths_of}
use Rattle.lola_flat.specs.Cycle.{next_elements, IsNextOf, IsNext}
use Rattle.lola_tree.specs.declared.named.Shape.{Shape}
use Rattle.lola_tree.specs.declared.named.Shape.TheVariants.{Vector, Array}
use Rattle.lola_tree.specs.Names.{Names, names_of}
use Rattle.lola_tree.specs.Tree.{Tree, ActualTree, ModuleTree, SourceTree}
use Rattle.lola_tree.specs.Width.{scope_of, width}
use Rattle.lola_tree.specs.Value.{Path, Values, value}
use Rattle.lola_tree.specs.Cycle.{names_at}
use Rattle.lola_tree.specs.design.Signals.{Kind, clock, input, pad, wire, register, Signal, signals, signal_paths, elements}
use Rattle.lola_tree.specs.design.Equations.{Update, updates}
use Rattle.lola_tree.specs.design.Cycle.{IsSignal, Suits, Sets, Next}
use Rattle.lola_tree.specs.design.Chains.{flat_equations}
use Rattle.lola_design.specs.Paths.{count, update_lefts, is_register}
use Rattle.lola_design.specs.Graph.{right_of}
use Rattle.lola_design.specs.Regular.{AreWithin, IsPlaceWithin, IsRegular, ReadsSuit, update_paths, update_arrays}
use Rattle.lola_design.proofs.Found.{where_most, where_of, update_counts}
use Rattle.lola_design.proofs.Stored.{one_update}
use Rattle.lola_values.proofs.Known.{NumbersAll}
use Rattle.lola_unfold.specs.Translated.{translated}
use Rattle.lola_unfold.specs.Flat.{seen_from, numbers_of, flat_kind, flat_signal, actual_place, flat_place, flat_next, flat_design, place_by, equation_by, update_of}
use Rattle.lola_meaning.specs.Tables.{elements_of, stored_by, state_of, values_of, Has}
use Rattle.lola_meaning.specs.Typed.{IsTyped, HasWidth, SetsWidth, AreTyped}
use Rattle.lola_meaning.proofs.Numbers.{get_is, value_at, values_long, same_numbers, with_long, with_at, number_past}
use Rattle.lola_meaning.proofs.Tables.{at_signal, number_is, expression_means}
use Rattle.lola_meaning.proofs.Lookups.{update_at, that_update}
use Rattle.lola_meaning.proofs.KindTests.{register_no_clock}
use Rattle.lola_meaning.proofs.Cycles.{reads_suit}

-- other places are as before
other_place : (n k : ℕ) → k < n → nat_eq n k ≡ false
other_place n k h = grind (arith, nat_tests)

module _ (S : SourceTree) (is : IsRegular S) (typed : AreTyped S) (numbers : NumbersAll) (once : (x : Path) → count x (signal_paths S) ≤ 1) (order : List ℕ) where
  abbrev F : FlatTree
  F = flat_design S order

  abbrev W : Env ℕ
  W = widths_of F

  updates_once : (x : Path) → count x (update_lefts (updates S)) ≤ 1
  updates_once x = let a = one_update x S is.assigned in let b = where_most x is_register (signals S) in let c = once x in omega arith

  -- the register of an update
  stored_kind : (k : Kind) → is_register k ≡ true → k ≡ register
  stored_kind clock e = absurd (let f : false ≡ true = e in cc)
  stored_kind input e = absurd (let f : false ≡ true = e in cc)
  stored_kind pad e = absurd (let f : false ≡ true = e in cc)
  stored_kind wire e = absurd (let f : false ≡ true = e in cc)
  stored_kind register e = refl

  register_of : (u : Update) → IsIn u (updates S) → (x : Signal) × IsSignal S register x × (x.path ≡ u.left)
  register_of u there =
      let x = where_of u.left is_register (signals S) (let a = update_counts u (updates S) there in let b = one_update u.left S is.assigned in omega arith) in
      (x.0, (x.1, stored_kind x.0.kind x.3), x.2)

  module _ (N : List (List ℕ)) (v : Values) (has : Has S N v) (suits : (x : Signal) → IsIn x (signals S) → x.kind ≢ clock → Suits x.names x.type (v x.path)) where
    abbrev E : Env ℕ
    E = env N []

    -- the list of next elements that an update makes
    abbrev made : ModuleTree → Path → Option ActualTree → Tree → List ℕ → List ℕ
    made m p place e old = next_elements W E (actual_place (names_of m) (seen_from (numbers_of S) p) place) (Some (translated (names_of m) (seen_from (numbers_of S) p) e)) old

    abbrev at_type : Path → Kind → Names → Shape → Signal
    at_type path kind names type = record { path = path; kind = kind; names = names; type = type }

    means : (m : ModuleTree) (p : Path) (e : Tree) (w : ℕ) → IsTyped S m p e → AreWithin S m p v e → width (scope_of m) e ≡ Some w →
        flat_value.value W E (translated (names_of m) (seen_from (numbers_of S) p) e) ≡ value (scope_of m) e (names_at p v)
    means m p e w expr within wide = expression_means S once numbers order m p N [] v has e w expr within wide

    -- an update by its definition, as a list
    set_list : (m : ModuleTree) (p : Path) (q : Path) (kind : Kind) (names : Names) (type : Shape) (old new : ℕ → ℕ) (place : Option ActualTree) (e : Tree) → HasWidth names type → SetsWidth S m p names type place e →
        AreWithin S m p v e → IsPlaceWithin S m p v (at_type q kind names type) place → Sets m p v old new place e →
        map new (first_numbers (elements names type)) ≡ made m p place e (map old (first_numbers (elements names type)))
    set_list m p q kind names (Vector c) old new None e wide sets within at set = ap (λ (n : ℕ). n ∷ []) (set ∙ sym (means m p e wide.0 sets.0 within (sets.1 ∙ wide.1)))
    set_list m p q kind names (Vector c) old new (Some place) e wide sets within at set = absurd sets
    set_list m p q kind names (Array n c) old new None e wide sets within at set = absurd sets
    set_list m p q kind names (Array n c) old new (Some place) e wide sets within at set =
        let count : ℕ = elements names (Array n c) in
        let x = means m p e wide.0 sets.0 within (sets.1 ∙ wide.2) in
        let k = means m p place.value wide.1 sets.2 at.0 (sets.3 ∙ wide.3) in
        let before : List ℕ = map old (first_numbers count) in
        same_numbers (map new (first_numbers count)) (with_number before (value (scope_of m) place.value (names_at p v)) (value (scope_of m) e (names_at p v)))
        (values_long new count ∙ sym (values_long old count) ∙ sym (with_long before (value (scope_of m) place.value (names_at p v)) (value (scope_of m) e (names_at p v))))
        (λ i inside.
        let less : i < count = subst (λ (l : ℕ). i < l) (values_long new count) inside in
        let within_before : i < length before = subst (λ (l : ℕ). i < l) (sym (values_long old count)) less in
        value_at new count i less ∙ set i
        ∙ ap (cond (nat_eq i (value (scope_of m) place.value (names_at p v))) (value (scope_of m) e (names_at p v))) (sym (value_at old count i less))
        ∙ sym (with_at before (value (scope_of m) place.value (names_at p v)) (value (scope_of m) e (names_at p v)) i within_before))
        ∙ ap₂ (λ (a b : ℕ). with_number before a b) (sym k) (sym x)

    -- and back
    list_sets : (m : ModuleTree) (p : Path) (q : Path) (kind : Kind) (names : Names) (type : Shape) (old new : List ℕ) (place : Option ActualTree) (e : Tree) → HasWidth names type → SetsWidth S m p names type place e →
        AreWithin S m p v e → IsPlaceWithin S m p v (at_type q kind names type) place → length old ≡ elements names type → new ≡ made m p place e old → Sets m p v (number_in old) (number_in new) place e
    list_sets m p q kind names (Vector c) old new None e wide sets within at long is = ap (λ (l : List ℕ). number_in l 0) is ∙ means m p e wide.0 sets.0 within (sets.1 ∙ wide.1)
    list_sets m p q kind names (Vector c) old new (Some place) e wide sets within at long is = absurd sets
    list_sets m p q kind names (Array n c) old new None e wide sets within at long is = absurd sets
    list_sets m p q kind names (Array n c) old new (Some place) e wide sets within at long is = λ i.
        let x = means m p e wide.0 sets.0 within (sets.1 ∙ wide.2) in
        let k = means m p place.value wide.1 sets.2 at.0 (sets.3 ∙ wide.3) in
        let y : ℕ = value (scope_of m) e (names_at p v) in
        let j : ℕ = value (scope_of m) place.value (names_at p v) in
        let below : j < elements names (Array n c) = at.1 in
        ap (λ (l : List ℕ). number_in l i) (is ∙ ap₂ (λ (a b : ℕ). with_number old a b) k x)
        ∙ elim (cases_lt i (length old)) [
          | inl inside ↦ with_at old j y i inside
          | inr past ↦
              number_past (with_number old j y) i (subst (λ (l : ℕ). l ≤ i) (sym (with_long old j y)) past)
              ∙ sym (number_past old i past)
              ∙ sym (cond-false (nat_eq i j) y (number_in old i) (other_place i j (omega arith)))
        ]

    -- where an update stands, what it reads is within
    module _ (u : Update) (there : IsIn u (updates S)) (x : Signal) (stored : IsSignal S register x) (same : x.path ≡ u.left) where
      reads : ReadsSuit S (update_paths u) (update_arrays u) v
      reads = reads_suit S once v suits (update_paths u) (update_arrays u) (is.update_reads u there)

      pub set_by : (new : ℕ → ℕ) → Sets u.module_ u.path v (v u.left) new u.place u.value → map new (first_numbers (elements x.names x.type)) ≡ made u.module_ u.path u.place u.value (elements_of v x)
      set_by new set =
          let w = is.values.by_update u there x stored.0 same v reads in
          set_list u.module_ u.path x.path x.kind x.names x.type (v x.path) new u.place u.value (typed.signals_have x stored.0) (typed.updates_have u there x stored.0 same) w.1 w.2
          (subst (λ (y : Path). Sets u.module_ u.path v (v y) new u.place u.value) (sym same) set)

      pub sets_by : (old new : List ℕ) → length old ≡ elements x.names x.type → new ≡ made u.module_ u.path u.place u.value old → Sets u.module_ u.path v (number_in old) (number_in new) u.place u.value
      sets_by old new long is_made =
          let w = is.values.by_update u there x stored.0 same v reads in
          list_sets u.module_ u.path x.path x.kind x.names x.type old new u.place u.value (typed.signals_have x stored.0) (typed.updates_have u there x stored.0 same) w.1 w.2 long is_made

    -- the state behind
    next_by : (s' : Values) → Next S v s' → (x : Signal) → IsIn x (signals S) → (k : Kind) → x.kind ≡ k →
        IsNextOf (flat_kind k) (next_elements W E (place_by k (right_of (flat_equations S) x.path) (update_of (updates S) x.path) (numbers_of S)) (equation_by k (right_of (flat_equations S) x.path) (update_of (updates S) x.path) (numbers_of S)) (get_or N (numbers_of S x.path) []))
        (stored_by k (elements_of s' x))
    next_by s' next x there clock kind = refl
    next_by s' next x there input kind = refl
    next_by s' next x there pad kind = refl
    next_by s' next x there wire kind = refl
    next_by s' next x there register kind =
        let u = update_at S is.assigned x (there, kind) in
        let made_is = set_by u.0 u.1 x (there, kind) (sym u.2) (s' u.0.left) (next u.0 u.1) in
        subst (λ (o : Option Update). elements_of s' x ≡ next_elements W E (flat_place (numbers_of S) o) (flat_next (numbers_of S) o) (get_or N (numbers_of S x.path) [])) (sym u.3)
        (subst (λ (l : List ℕ). elements_of s' x ≡ made u.0.module_ u.0.path u.0.place u.0.value l) (sym (has x there (register_no_clock x.kind kind)))
        (subst (λ (y : Path). map (s' y) (first_numbers (elements x.names x.type)) ≡ made u.0.module_ u.0.path u.0.place u.0.value (elements_of v x)) u.2 made_is))

    pub next_table : (s' : Values) → Next S v s' → IsNext F N (state_of S s')
    next_table s' next = record {
      long = length-map (signals S) (λ (y : Signal). stored_by y.kind (elements_of s' y)) ∙ sym (length-map (signals S) (flat_signal S));
      each = λ n t at.
          let f = from_get (flat_signal S) (signals S) n t at in
          let x = f.0 in
          let there = get_in (signals S) n x f.1 in
          subst (λ (t : SignalTree). IsNextOf t.kind (next_elements W E t.place t.equation (get_or N n [])) (get_or (state_of S s') n [])) f.2
          (subst (λ (l : List ℕ). IsNextOf (flat_signal S x).kind (next_elements W E (flat_signal S x).place (flat_signal S x).equation (get_or N n [])) l)
          (sym (get_is (state_of S s') n [] (stored_by x.kind (elements_of s' x)) (get_map (λ (y : Signal). stored_by y.kind (elements_of s' y)) (signals S) n x f.1)))
          (subst (λ (k : ℕ). IsNextOf (flat_signal S x).kind (next_elements W E (flat_signal S x).place (flat_signal S x).equation (get_or N k [])) (stored_by x.kind (elements_of s' x))) (number_is S once n x f.1)
          (next_by s' next x there x.kind refl)));
    }

  -- and the other way round, for the values of a table
  module _ (N : List (List ℕ)) (has : Has S N (values_of S N)) (suits : (x : Signal) → IsIn x (signals S) → x.kind ≢ clock → Suits x.names x.type (values_of S N x.path)) where
    stored_next : (after : List (List ℕ)) → IsNext F N after → (x : Signal) → IsSignal S register x → (u : Update) → update_of (updates S) x.path ≡ Some u →
        get_or after (numbers_of S x.path) [] ≡ made N (values_of S N) has suits u.module_ u.path u.place u.value (get_or N (numbers_of S x.path) [])
    stored_next after next x stored u is_u =
        let at = get_map (flat_signal S) (signals S) (numbers_of S x.path) x (at_signal S once x stored.0) in
        subst (λ (o : Option Update). get_or after (numbers_of S x.path) [] ≡ next_elements W (env N []) (flat_place (numbers_of S) o) (flat_next (numbers_of S) o) (get_or N (numbers_of S x.path) [])) is_u
        (subst (λ (k : Kind). IsNextOf (flat_kind k) (next_elements W (env N []) (place_by k (right_of (flat_equations S) x.path) (update_of (updates S) x.path) (numbers_of S)) (equation_by k (right_of (flat_equations S) x.path) (update_of (updates S) x.path) (numbers_of S)) (get_or N (numbers_of S x.path) []))
        (get_or after (numbers_of S x.path) [])) stored.1
        (next.each (numbers_of S x.path) (flat_signal S x) at))

    pub next_values : (after : List (List ℕ)) → IsNext F N after → Next S (values_of S N) (values_of S after)
    next_values after next u there =
        let x = register_of u there in
        let found : update_of (updates S) x.0.path ≡ Some u = ap (update_of (updates S)) x.2 ∙ that_update (updates S) u (updates_once u.left) there in
        let long : length (get_or N (numbers_of S x.0.path) []) ≡ elements x.0.names x.0.type =
        ap (λ (l : List ℕ). length l) (has x.0 x.1.0 (register_no_clock x.0.kind x.1.1)) ∙ values_long (values_of S N x.0.path) (elements x.0.names x.0.type) in
        subst (λ (y : Path). Sets u.module_ u.path (values_of S N) (values_of S N y) (values_of S after y) u.place u.value) x.2
        (sets_by N (values_of S N) has suits u there x.0 x.1 x.2 (get_or N (numbers_of S x.0.path) []) (get_or after (numbers_of S x.0.path) []) long (stored_next after next x.0 x.1 u found))
