-- Signals by their numbers, and the expressions of a flat design that stand for those of its source.
use Rattle.std.proofs.Common.{◌≡◌, ◌≢◌, ℕ, ◌^◌, ◌<◌, ◌≤◌, cond, List, [], ◌∷◌, ◌++◌, map, length, replicate, get_or, Option, Some, None, refl, sym, ◌∙◌, ap, ap₂, subst, arith}
use Rattle.std.specs.Prelude.{nat_eq, slice_get}
use Rattle.std.proofs.Math.Pow.{pow_mono}
use Rattle.lola_bits.specs.Lists.{IsIn}
use Rattle.lola_bits.proofs.Lists.{to_map}
use Rattle.lola_bits.proofs.Places.{get_in, get_map, from_get}
use Rattle.lola_alg.specs.Means.{IsWidth, number_in}
use Rattle.lola_flat.specs.Numbers.{first_numbers}
use Rattle.lola_flat.specs.Tree.{signal, from_outside, SignalTree, FlatTree}
use Rattle.lola_flat.specs.Value.{Env, env, Fits}
use Rattle.lola_flat.specs.Value as flat_value
use Rattle.lola_flat.specs.Signals.{widths_of}
use Rattle.lola_tree.specs.declared.named.Ref.{Ref}
use Rattle.lola_tree.specs.declared.named.Shape.{Shape}
use Rattle.lola_tree.specs.declared.named.Shape.TheVariants.{Vector, Array}
use Rattle.lola_tree.specs.Tree.{Tree, ModuleTree, SourceTree}
use Rattle.lola_tree.specs.Names.{Names, names_of, count_number}
use Rattle.lola_tree.specs.Width.{width, vector_width, element_width, elements_width, checked_place, scope_of}
use Rattle.lola_tree.specs.Value.{Path, Values, value, or_zero}
use Rattle.lola_tree.specs.Cycle.{names_at}
use Rattle.lola_tree.specs.design.Signals.{Kind, clock, input, pad, wire, register, Signal, signals, signal_paths, elements}
use Rattle.lola_tree.specs.design.Equations.{Right, expression, copied, driven, right_value}
use Rattle.lola_tree.specs.design.Cycle.{IsSignal}
use Rattle.lola_tree.specs.design.Chains.{elements_in}
use Rattle.lola_design.specs.Paths.{count}
use Rattle.lola_design.specs.Regular.{IsVector, IsArray, AreWithin, IsRightWithin}
use Rattle.lola_design.proofs.Found.{one_signal}
use Rattle.lola_design.proofs.Graphs.{at_number, one_place}
use Rattle.lola_values.proofs.Widths.{checked_is}
use Rattle.lola_values.proofs.Known.{NumbersAll}
use Rattle.lola_unfold.specs.Translated.{small, translated}
use Rattle.lola_unfold.specs.Flat.{flat_width, flat_count, flat_signal, flat_right, flat_design, numbers_of, seen_from}
use Rattle.lola_meaning.specs.Tables.{elements_of, shown_by, table_of, values_of, Has}
use Rattle.lola_meaning.specs.Typed.{HasWidth, IsVectorRead, IsArrayRead, IsTyped, IsPadOf, RightHasWidth}
use Rattle.lola_meaning.proofs.KindTests.{register_no_clock}
use Rattle.lola_meaning.proofs.Numbers.{small_is, get_is, get_inside, value_at, read_back}
use Rattle.lola_meaning.proofs.Expressions.{counted_is, Translates, IsVectorAt, IsArrayAt, signal_translates, translates, means}

-- the type of a vector, and of an array
pub record TypedVector (names : Names) (type : Shape) (w : ℕ) : Type 0 where
  pub width : flat_width names type ≡ w
  pub count : flat_count names type ≡ 1
  pub elements_are : elements names type ≡ 1
  pub wide : IsWidth w

pub typed_vector : (names : Names) (type : Shape) (w : ℕ) → IsVector type → vector_width names (Some type) ≡ Some w → TypedVector names type w
typed_vector names (Vector c) w is e =
    let k = checked_is (count_number names c) w e in
    let most : w ≤ 128 = k.2 in
    record { width = counted_is names c w k.0 (omega arith); count = refl; elements_are = refl; wide = (k.1, k.2) }
typed_vector names (Array n c) w is e = absurd is

pub record TypedArray (names : Names) (type : Shape) (w k : ℕ) : Type 0 where
  pub width : flat_width names type ≡ w
  pub count : flat_count names type ≡ 2 ^ k
  pub elements_are : elements names type ≡ 2 ^ k
  pub wide : IsWidth w
  pub places : (1 ≤ k) × (k ≤ 10)

-- places tell apart as many elements as there are, at most 1,024
place_few : NumbersAll → (o : Option ℕ) (k : ℕ) → checked_place o ≡ Some k → (1 ≤ k) × (k ≤ 10) × (or_zero o ≡ 2 ^ k)
place_few numbers None k e = absurd (let f : None ≡ Some k = e in cc)
place_few numbers (Some n) k e = (numbers n k).0 e

pub few_elements : (k : ℕ) → k ≤ 10 → 2 ^ k ≤ 1024
few_elements k few = pow_mono few

pub typed_array : NumbersAll → (names : Names) (type : Shape) (w k : ℕ) → IsArray type → element_width names (Some type) ≡ Some w → elements_width names (Some type) ≡ Some k → TypedArray names type w k
typed_array numbers names (Vector c) w k is e f = absurd is
typed_array numbers names (Array n c) w k is e f =
    let a = checked_is (count_number names c) w e in
    let most : w ≤ 128 = a.2 in
    let places = place_few numbers (count_number names n) k f in
    let all : or_zero (count_number names n) ≡ 2 ^ k = places.2 in
    record {
      width = counted_is names c w a.0 (omega arith);
      count = ap small all ∙ small_is (2 ^ k) (few_elements k places.1);
      elements_are = all;
      wide = (a.1, a.2);
      places = (places.0, places.1);
    }

pub array_elements : NumbersAll → (names : Names) (type : Shape) (k : ℕ) → IsArray type → elements_width names (Some type) ≡ Some k → elements names type ≡ 2 ^ k
array_elements numbers names (Vector c) k is f = absurd is
array_elements numbers names (Array n c) k is f = (place_few numbers (count_number names n) k f).2

pub count_is : NumbersAll → (names : Names) (type : Shape) → HasWidth names type → flat_count names type ≡ elements names type
count_is numbers names (Vector c) has = refl
count_is numbers names (Array n c) has = let t = typed_array numbers names (Array n c) has.0 has.1 tt has.2 has.3 in t.count ∙ sym t.elements_are

-- a vector has one element
pub vector_elements : (v : Values) (path : Path) (names : Names) (type : Shape) → IsVector type → map (v path) (first_numbers (elements names type)) ≡ v path 0 ∷ []
vector_elements v path names (Vector c) is = refl
vector_elements v path names (Array n c) is = absurd is

module _ (S : SourceTree) (once : (x : Path) → count x (signal_paths S) ≤ 1) where
  pub one : (x y : Signal) → IsIn x (signals S) → IsIn y (signals S) → x.path ≡ y.path → x ≡ y
  one x y p q same = one_signal (signals S) x y (once x.path) p q same

  path_at : (x : Signal) → IsIn x (signals S) → slice_get (signal_paths S) (numbers_of S x.path) ≡ Some x.path
  path_at x there = at_number (signal_paths S) x.path (to_map (λ (y : Signal). y.path) x (signals S) there)

  -- a signal stands at the number of its path
  pub at_signal : (x : Signal) → IsIn x (signals S) → slice_get (signals S) (numbers_of S x.path) ≡ Some x
  at_signal x there =
      let f = from_get (λ (y : Signal). y.path) (signals S) (numbers_of S x.path) x.path (path_at x there) in
      f.1 ∙ ap (λ (y : Signal). Some y) (one f.0 x (get_in (signals S) (numbers_of S x.path) f.0 f.1) there f.2)

  pub number_is : (n : ℕ) (x : Signal) → slice_get (signals S) n ≡ Some x → numbers_of S x.path ≡ n
  number_is n x at =
      one_place (signal_paths S) x.path (once x.path) (numbers_of S x.path) n (path_at x (get_in (signals S) n x at)) (get_map (λ (y : Signal). y.path) (signals S) n x at)

  -- and so does its flat one
  pub flat_at : (x : Signal) → IsIn x (signals S) → slice_get (map (flat_signal S) (signals S)) (numbers_of S x.path) ≡ Some (flat_signal S x)
  flat_at x there = get_map (flat_signal S) (signals S) (numbers_of S x.path) x (at_signal x there)

  -- an item of a table of the signals
  pub at_table : {X : Type 0} (f : Signal → X) (z : X) (x : Signal) → IsIn x (signals S) → get_or (map f (signals S)) (numbers_of S x.path) z ≡ f x
  at_table f z x there = get_is (map f (signals S)) (numbers_of S x.path) z (f x) (get_map f (signals S) (numbers_of S x.path) x (at_signal x there))

  pub inside_table : {X : Type 0} (f : Signal → X) (x : Signal) → IsIn x (signals S) → numbers_of S x.path < length (map f (signals S))
  inside_table f x there = get_inside (map f (signals S)) (numbers_of S x.path) (f x) (get_map f (signals S) (numbers_of S x.path) x (at_signal x there))

  shown_is : (k : Kind) (ns : List ℕ) → k ≢ clock → shown_by k ns ≡ ns
  shown_is clock ns other = absurd (other refl)
  shown_is input ns other = refl
  shown_is pad ns other = refl
  shown_is wire ns other = refl
  shown_is register ns other = refl

  -- the table of a valuation has its values
  pub table_has : (v : Values) → Has S (table_of S v) v
  table_has v x there other = at_table (λ (y : Signal). shown_by y.kind (elements_of v y)) [] x there ∙ shown_is x.kind (elements_of v x) other

  -- and a table those that it stands for
  pub has_own : (N : List (List ℕ)) (x : Signal) → length (get_or N (numbers_of S x.path) []) ≡ elements x.names x.type → get_or N (numbers_of S x.path) [] ≡ elements_of (values_of S N) x
  has_own N x long = sym (read_back (get_or N (numbers_of S x.path) []) (elements x.names x.type) long)

  module _ (numbers : NumbersAll) (order : List ℕ) where
    abbrev pub F : FlatTree
    F = flat_design S order

    abbrev pub W : Env ℕ
    W = widths_of F

    abbrev its_widths : SignalTree → List ℕ
    its_widths s = replicate s.count s.width

    widths_at : (x : Signal) → IsIn x (signals S) → flat_value.elements W (numbers_of S x.path) ≡ replicate (flat_count x.names x.type) (flat_width x.names x.type)
    widths_at x there =
        get_is (map its_widths F.signals) (numbers_of S x.path) [] (its_widths (flat_signal S x)) (get_map its_widths F.signals (numbers_of S x.path) (flat_signal S x) (flat_at x there))

    widths_inside : (x : Signal) → IsIn x (signals S) → numbers_of S x.path < length W.signals
    widths_inside x there =
        get_inside (map its_widths F.signals) (numbers_of S x.path) (its_widths (flat_signal S x)) (get_map its_widths F.signals (numbers_of S x.path) (flat_signal S x) (flat_at x there))

    outer_at : (x : Signal) → IsIn x (signals S) → get_or W.outside (numbers_of S x.path) 0 ≡ flat_width x.names x.type
    outer_at x there =
        get_is (map (λ (s : SignalTree). s.width) F.signals) (numbers_of S x.path) 0 (flat_width x.names x.type)
        (get_map (λ (s : SignalTree). s.width) F.signals (numbers_of S x.path) (flat_signal S x) (flat_at x there))

    outer_inside : (x : Signal) → IsIn x (signals S) → numbers_of S x.path < length W.outside
    outer_inside x there =
        get_inside (map (λ (s : SignalTree). s.width) F.signals) (numbers_of S x.path) (flat_width x.names x.type)
        (get_map (λ (s : SignalTree). s.width) F.signals (numbers_of S x.path) (flat_signal S x) (flat_at x there))

    pub vector_at : (x : Signal) (w : ℕ) → IsIn x (signals S) → IsVector x.type → vector_width x.names (Some x.type) ≡ Some w → IsVectorAt W (numbers_of S x.path) w
    vector_at x w there is wide =
        let t = typed_vector x.names x.type w is wide in
        record { inside = widths_inside x there; is = widths_at x there ∙ ap₂ (λ (n k : ℕ). replicate n k) t.count t.width; wide = t.wide }

    pub array_at : (x : Signal) (w k : ℕ) → IsIn x (signals S) → IsArray x.type → element_width x.names (Some x.type) ≡ Some w → elements_width x.names (Some x.type) ≡ Some k → IsArrayAt W (numbers_of S x.path) w k
    array_at x w k there is wide places =
        let t = typed_array numbers x.names x.type w k is wide places in
        record { inside = widths_inside x there; is = widths_at x there ∙ ap₂ (λ (n k : ℕ). replicate n k) t.count t.width; wide = t.wide; places = t.places }

    -- what an expression of a module reads at a path
    module _ (m : ModuleTree) (p : Path) where
      vector_is : (r : Ref) → IsVectorRead S m p r → (w : ℕ) → (scope_of m).width r ≡ Some w → IsVectorAt W (numbers_of S (p ++ r.path)) w
      vector_is r x w wide =
          subst (λ (y : Path). IsVectorAt W (numbers_of S y) w) x.path_is (vector_at x.signal w x.there x.vector (sym x.wide ∙ wide))

      array_is : (r : Ref) → IsArrayRead S m p r → (w k : ℕ) → (scope_of m).element r ≡ Some w → (scope_of m).place r ≡ Some k → IsArrayAt W (numbers_of S (p ++ r.path)) w k
      array_is r x w k wide places =
          subst (λ (y : Path). IsArrayAt W (numbers_of S y) w k) x.path_is (array_at x.signal w k x.there.0 x.array (sym x.wide ∙ wide) (sym x.places ∙ places))

      arrays_typed : (e : Tree) → IsTyped S m p e → (a : Ref × Tree) → IsIn a (elements_in e) → IsArrayRead S m p a.0
      arrays_typed e typed a there = typed.arrays a.0 (to_map (λ (b : Ref × Tree). b.0) a (elements_in e) there)

      pub expression_translates : (e : Tree) (w : ℕ) → IsTyped S m p e → width (scope_of m) e ≡ Some w → Translates W (translated (names_of m) (seen_from (numbers_of S) p) e) w
      expression_translates e w typed wide =
          translates (names_of m) (seen_from (numbers_of S) p) W (IsVectorRead S m p) (IsArrayRead S m p) vector_is array_is e typed.vectors (arrays_typed e typed) w wide

      module _ (N : List (List ℕ)) (outside : List ℕ) (v : Values) (has : Has S N v) where
        vector_read : (r : Ref) → IsVectorRead S m p r → get_or N (numbers_of S (p ++ r.path)) [] ≡ v (p ++ r.path) 0 ∷ []
        vector_read r x =
            subst (λ (y : Path). get_or N (numbers_of S y) [] ≡ v y 0 ∷ []) x.path_is (has x.signal x.there x.no_clock ∙ vector_elements v x.signal.path x.signal.names x.signal.type x.vector)

        array_typed : (r : Ref) (x : IsArrayRead S m p r) (k : ℕ) → (scope_of m).place r ≡ Some k → elements x.signal.names x.signal.type ≡ 2 ^ k
        array_typed r x k place = array_elements numbers x.signal.names x.signal.type k x.array (sym x.places ∙ place)

        array_read : (r : Ref) → IsArrayRead S m p r → (k : ℕ) → (scope_of m).place r ≡ Some k → (i : ℕ) → i < 2 ^ k → number_in (get_or N (numbers_of S (p ++ r.path)) []) i ≡ v (p ++ r.path) i
        array_read r x k place i inside =
            subst (λ (y : Path). number_in (get_or N (numbers_of S y) []) i ≡ v y i) x.path_is
            (ap (λ (l : List ℕ). number_in l i) (has x.signal x.there.0 (register_no_clock x.signal.kind x.there.1))
            ∙ value_at (v x.signal.path) (elements x.signal.names x.signal.type) i (subst (λ (n : ℕ). i < n) (sym (array_typed r x k place)) inside))

        places_within : (e : Tree) → IsTyped S m p e → AreWithin S m p v e → (a : Ref × Tree) → IsIn a (elements_in e) → (k : ℕ) → (scope_of m).place a.0 ≡ Some k → value (scope_of m) a.1 (names_at p v) < 2 ^ k
        places_within e typed within a there k place =
            let x = arrays_typed e typed a there in
            subst (λ (n : ℕ). value (scope_of m) a.1 (names_at p v) < n) (array_typed a.0 x k place) (within a there x.signal x.there x.path_is)

        pub expression_means : (e : Tree) (w : ℕ) → IsTyped S m p e → AreWithin S m p v e → width (scope_of m) e ≡ Some w →
            flat_value.value W (env N outside) (translated (names_of m) (seen_from (numbers_of S) p) e) ≡ value (scope_of m) e (names_at p v)
        expression_means e w typed within wide =
            means (names_of m) (seen_from (numbers_of S) p) W (IsVectorRead S m p) (IsArrayRead S m p) vector_is array_is (env N outside) (names_at p v) vector_read array_read
            e typed.vectors (arrays_typed e typed) (places_within e typed within) w wide

    -- the right side of an equation
    pub right_translates : (w : ℕ) (r : Right) → RightHasWidth S w r → Translates W (flat_right (numbers_of S) r) w
    right_translates w (expression m p e) has = expression_translates m p e w has.0 has.1
    right_translates w (copied other) has =
        subst (λ (y : Path). Translates W (signal (numbers_of S y)) w) has.path_is
        (signal_translates W (numbers_of S has.signal.path) w (vector_at has.signal w has.there has.vector has.wide))
    right_translates w (driven m p drive release io) has =
        let a = expression_translates m p release 1 has.1 has.2 in
        let b = expression_translates m p drive w has.3 has.4 in
        let o = outer_translates w io has.0 in
        record {
          is = o.is;
          fits = ((a.is, (subst IsWidth (sym o.is) o.wide, b.is ∙ sym o.is)), (a.fits, (o.fits, (b.fits, tt))));
          wide = o.wide;
        }
      where
        outer_translates : (w : ℕ) (io : Path) → IsPadOf S w io → Translates W (from_outside (numbers_of S io)) w
        outer_translates w io of =
            let t = typed_vector of.signal.names of.signal.type w of.vector of.wide in
            let is : get_or W.outside (numbers_of S of.signal.path) 0 ≡ w = outer_at of.signal of.there.0 ∙ t.width in
            subst (λ (y : Path). Translates W (from_outside (numbers_of S y)) w) of.path_is
            (record { is = is; fits = (outer_inside of.signal of.there.0, subst IsWidth (sym is) t.wide); wide = t.wide })

    module _ (N : List (List ℕ)) (outside : List ℕ) (inp v : Values) (has : Has S N v)
        (outer : (x : Signal) → IsSignal S pad x → get_or outside (numbers_of S x.path) 0 ≡ inp x.path 0) where
      pub right_means : (w : ℕ) (r : Right) → RightHasWidth S w r → IsRightWithin S v r → flat_value.value W (env N outside) (flat_right (numbers_of S) r) ≡ right_value inp v r
      right_means w (expression m p e) typed within = expression_means m p N outside v has e w typed.0 within typed.1
      right_means w (copied other) typed within =
          ap (λ (l : List ℕ). get_or l 0 0)
          (subst (λ (y : Path). get_or N (numbers_of S y) [] ≡ v y 0 ∷ []) typed.path_is
          (has typed.signal typed.there typed.no_clock ∙ vector_elements v typed.signal.path typed.signal.names typed.signal.type typed.vector))
      right_means w (driven m p drive release io) typed within =
          let a = expression_means m p N outside v has release 1 typed.1 within.0 typed.2 in
          let b = expression_means m p N outside v has drive w typed.3 within.1 typed.4 in
          let o : get_or outside (numbers_of S io) 0 ≡ inp io 0 = subst (λ (y : Path). get_or outside (numbers_of S y) 0 ≡ inp y 0) typed.0.path_is (outer typed.0.signal typed.0.there) in
          ap (λ (k : ℕ). cond (nat_eq k 1) (get_or outside (numbers_of S io) 0) (flat_value.value W (env N outside) (translated (names_of m) (seen_from (numbers_of S) p) drive))) a
          ∙ ap₂ (λ (k l : ℕ). cond (nat_eq (value (scope_of m) release (names_at p v)) 1) k l) o b
