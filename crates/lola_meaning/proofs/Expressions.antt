-- A translated expression has the width and the value of the expression.
use Rattle.std.proofs.Common.{◌≡◌, ℕ, ◌+◌, ◌-◌, ◌*◌, ◌/◌, ◌%◌, ◌^◌, ◌<◌, ◌≤◌, cond, List, [], ◌∷◌, ◌++◌, length, replicate, get_or, Option, Some, None, refl, sym, ◌∙◌, ap, ap₂, subst, inl, inr, arith}
use Rattle.std.specs.Prelude.{nat_eq}
use Rattle.std.specs.Option.{is_none}
use Rattle.std.proofs.lemmas.Nat.{mul-le, pow_pos}
use Rattle.lola_bits.specs.declared.op.Op.{Op}
use Rattle.lola_bits.specs.declared.op.Op.TheVariants as op
use Rattle.lola_bits.specs.Lists.{IsIn}
use Rattle.lola_bits.specs.Number.{bit_at, slice_of, joined, inverted, operate}
use Rattle.lola_bits.specs.Vector.{FitsWidth}
use Rattle.lola_bits.proofs.Lists.{in_front, in_back}
use Rattle.lola_bits.proofs.Options.{some_same, nothing}
use Rattle.lola_alg.specs.Means.{IsWidth, Suits, op_width, op_works, op_number, number_in}
use Rattle.lola_flat.specs.Tree.{ExprTree, signal, element, join, repeat, apply, no_expr, one_expr}
use Rattle.lola_flat.specs.Tree as flat
use Rattle.lola_flat.specs.Value.{Env, elements, sum_of, joined_all, IsVectorOf, IsArrayOf, Fits, AllFit}
use Rattle.lola_flat.specs.Value as flat_value
use Rattle.lola_tree.specs.declared.named.Count.{Count}
use Rattle.lola_tree.specs.declared.named.Ref.{Ref}
use Rattle.lola_tree.specs.Tree.{Tree, number, whole, bit, slice, index, concat, negation, binary, choice, Parts, no_part, one_part}
use Rattle.lola_tree.specs.Names.{Entry, port, constant, local, Names, ref_name, count_number, constant_number}
use Rattle.lola_tree.specs.Width.{Scope, scope_over, width, total_width, written_width, number_width, entry_width, same_width, defined_width, bit_width, repeated_width, operator_width}
use Rattle.lola_tree.specs.Value.{value, value_of_parts, or_zero, or_read, repeated}
use Rattle.lola_tree.specs.design.Chains.{name_in, names_in, part_names_in, elements_in, part_elements_in}
use Rattle.lola_values.proofs.Widths as widths
use Rattle.lola_unfold.specs.Translated.{Numbers, small, counted, meant, translated, translated_parts}
use Rattle.lola_meaning.proofs.Numbers.{small_is, sum_same, length_same, first_same, all_are, joined_same}

-- an expression over signals fits, in a width
pub record Translates (W : Env ℕ) (e : ExprTree) (w : ℕ) : Type 0 where
  pub is : flat_value.width W e ≡ w
  pub fits : Fits W e
  pub wide : IsWidth w

number_translates : (W : Env ℕ) (n : ℕ) (written : Option ℕ) (w : ℕ) → number_width n written ≡ Some w → Translates W (flat.number (small (written_width written)) n) w
number_translates W n written w e =
    let k = widths.number_in n written w e in
    let fits : FitsWidth w n = k.1 in
    let most : w ≤ 128 = fits.at_most in
    let same : small (written_width written) ≡ w = ap small k.0 ∙ small_is w (omega arith) in
    subst (λ (u : ℕ). Translates W (flat.number u n) w) (sym same)
    (record { is = refl; fits = ((fits.positive, fits.at_most), fits.below); wide = (fits.positive, fits.at_most) })

-- a bit of a vector
bit_parts : (place width : Option ℕ) (w : ℕ) → bit_width place width ≡ Some w → (n : ℕ) × (v : ℕ) × (place ≡ Some n) × (width ≡ Some v) × (n < v) × (w ≡ 1)
bit_parts None width w e = nothing w e
bit_parts (Some n) None w e = nothing w e
bit_parts (Some n) (Some v) w e = let b = widths.bit_is (Some n) v w e in (n, v, refl, refl, let s : Some n ≡ Some b.0 = b.1 in let t : n ≡ b.0 = some_same n b.0 s in subst (λ (k : ℕ). k < v) (sym t) b.2, b.3)

pub counted_is : (names : Names) (c : Count) (n : ℕ) → count_number names c ≡ Some n → n ≤ 1024 → counted names c ≡ n
counted_is names c n is few = ap (λ (o : Option ℕ). small (or_zero o)) is ∙ small_is n few

-- what an operator makes of two vectors
pub record Operates (o : Op) (v u w : ℕ) : Type 0 where
  pub suits : Suits o (v ∷ u ∷ [])
  pub makes : op_width o (v ∷ u ∷ []) ≡ w
  pub works : op_works o (v ∷ u ∷ []) ≡ v

one_bit : (v u w : ℕ) → defined_width (Some 1) (same_width (Some v) (Some u)) ≡ Some w → (1 ≡ w) × (u ≡ v)
one_bit v u w e =
    let d = widths.defined_is (Some 1) (same_width (Some v) (Some u)) w e in
    let s = widths.same_is (Some v) (Some u) d.1.0 d.1.1 in
    (some_same 1 w d.0, some_same u v (s.1 ∙ sym s.0))

two_same : (v u w : ℕ) → same_width (Some v) (Some u) ≡ Some w → (v ≡ w) × (u ≡ v)
two_same v u w e = let s = widths.same_is (Some v) (Some u) w e in (some_same v w s.0, some_same u v (s.1 ∙ sym s.0))

operates : (o : Op) (v u w : ℕ) → operator_width o (Some v) (Some u) ≡ Some w → IsWidth v → IsWidth u → Operates o v u w
operates op.Not v u w e a b = nothing w e
operates op.Mux v u w e a b = nothing w e
operates op.Eq v u w e a b = let s = one_bit v u w e in record { suits = (a, s.1); makes = s.0; works = refl }
operates op.Ne v u w e a b = let s = one_bit v u w e in record { suits = (a, s.1); makes = s.0; works = refl }
operates op.Lt v u w e a b = let s = one_bit v u w e in record { suits = (a, s.1); makes = s.0; works = refl }
operates op.Le v u w e a b = let s = one_bit v u w e in record { suits = (a, s.1); makes = s.0; works = refl }
operates op.Gt v u w e a b = let s = one_bit v u w e in record { suits = (a, s.1); makes = s.0; works = refl }
operates op.Ge v u w e a b = let s = one_bit v u w e in record { suits = (a, s.1); makes = s.0; works = refl }
operates op.And v u w e a b = let s = two_same v u w e in record { suits = (a, s.1); makes = s.0; works = refl }
operates op.Or v u w e a b = let s = two_same v u w e in record { suits = (a, s.1); makes = s.0; works = refl }
operates op.Xor v u w e a b = let s = two_same v u w e in record { suits = (a, s.1); makes = s.0; works = refl }
operates op.Add v u w e a b = let s = two_same v u w e in record { suits = (a, s.1); makes = s.0; works = refl }
operates op.Sub v u w e a b = let s = two_same v u w e in record { suits = (a, s.1); makes = s.0; works = refl }
operates op.Shl v u w e a b = record { suits = (a, b); makes = some_same v w e; works = refl }
operates op.Shr v u w e a b = record { suits = (a, b); makes = some_same v w e; works = refl }
operates op.Asr v u w e a b = record { suits = (a, b); makes = some_same v w e; works = refl }
operates op.Ror v u w e a b = record { suits = (a, b); makes = some_same v w e; works = refl }

op_of_two : (o : Op) (w x y : ℕ) → op_number o w (x ∷ y ∷ []) ≡ operate o w x y
op_of_two op.Not w x y = refl
op_of_two op.Mux w x y = refl
op_of_two op.Eq w x y = refl
op_of_two op.Ne w x y = refl
op_of_two op.Lt w x y = refl
op_of_two op.Le w x y = refl
op_of_two op.Gt w x y = refl
op_of_two op.Ge w x y = refl
op_of_two op.And w x y = refl
op_of_two op.Or w x y = refl
op_of_two op.Xor w x y = refl
op_of_two op.Add w x y = refl
op_of_two op.Sub w x y = refl
op_of_two op.Shl w x y = refl
op_of_two op.Shr w x y = refl
op_of_two op.Asr w x y = refl
op_of_two op.Ror w x y = refl

-- a part several times
few_times : (n v w : ℕ) → n * v ≤ w → 1 ≤ v → w ≤ 128 → n ≤ 1024
few_times n v w size some most = let h : n * 1 ≤ n * v = mul-le n 1 n v (omega arith) some in omega arith

some_times : (n v : ℕ) → 1 ≤ n → 1 ≤ v → 1 ≤ n * v
some_times n v a b = let h : 1 * 1 ≤ n * v = mul-le 1 1 n v a b in omega arith

pub record Repeats (W : Env ℕ) (e : ExprTree) (times v n : ℕ) : Type 0 where
  pub counts : times ≡ n
  pub is : flat_value.width W (repeat e times) ≡ n * v
  pub fits : Fits W (repeat e times)

repeats : (W : Env ℕ) (e : ExprTree) (times v n w : ℕ) → Translates W e v → times ≡ n → 1 ≤ n → n * v ≤ w → w ≤ 128 → Repeats W e times v n
repeats W e times v n w part counts some size most =
    let is : flat_value.width W (repeat e times) ≡ n * v = ap₂ (λ (k u : ℕ). sum_of (replicate k u)) counts part.is ∙ sum_same n v in
    let low : 1 ≤ n * v = some_times n v some part.wide.0 in
    record { counts = counts; is = is; fits = (subst IsWidth (sym is) (low, omega arith), part.fits) }

-- an element of an array
array_of_width : (k w : ℕ) → IsWidth w → (1 ≤ k) × (k ≤ 10) → IsArrayOf (replicate (2 ^ k) w) k
array_of_width k w wide places =
    let some = pow_pos k in
    let first : get_or (replicate (2 ^ k) w) 0 0 ≡ w = first_same (2 ^ k) w (omega arith) in
    record { wide = subst IsWidth (sym first) wide; places = places; count = length_same (2 ^ k) w; each = all_are (2 ^ k) w (get_or (replicate (2 ^ k) w) 0 0) first }

abbrev pub AllAre : (Ref → Type 0) → List Ref → Type 0
AllAre P rs = (r : Ref) → IsIn r rs → P r

-- a signal is a vector, or an array
pub record IsVectorAt (W : Env ℕ) (n w : ℕ) : Type 0 where
  pub inside : n < length W.signals
  pub is : elements W n ≡ w ∷ []
  pub wide : IsWidth w

pub record IsArrayAt (W : Env ℕ) (n w k : ℕ) : Type 0 where
  pub inside : n < length W.signals
  pub is : elements W n ≡ replicate (2 ^ k) w
  pub wide : IsWidth w
  pub places : (1 ≤ k) × (k ≤ 10)

pub signal_translates : (W : Env ℕ) (n w : ℕ) → IsVectorAt W n w → Translates W (signal n) w
signal_translates W n w at = record {
  is = ap (λ (l : List ℕ). get_or l 0 0) at.is;
  fits = (at.inside, subst IsVectorOf (sym at.is) (record { one = refl; wide = at.wide }));
  wide = at.wide;
}

element_translates : (W : Env ℕ) (n w k : ℕ) (place : ExprTree) → IsArrayAt W n w k → Translates W place k → Translates W (element n place) w
element_translates W n w k place at inner =
    let some = pow_pos k in
    let array : IsArrayOf (elements W n) (flat_value.width W place) =
    subst (λ (l : List ℕ). IsArrayOf l (flat_value.width W place)) (sym at.is) (subst (IsArrayOf (replicate (2 ^ k) w)) (sym inner.is) (array_of_width k w at.wide at.places)) in
    record {
      is = ap (λ (l : List ℕ). get_or l 0 0) at.is ∙ first_same (2 ^ k) w (omega arith);
      fits = (at.inside, (array, inner.fits));
      wide = at.wide;
    }

slice_translates : (W : Env ℕ) (e : ExprTree) (v high low h l w : ℕ) → Translates W e v → high ≡ h → low ≡ l → h < v → l ≤ h → w ≡ h - l + 1 → Translates W (flat.slice e high low) w
slice_translates W e v high low h l w of up down within order size =
    let most : v ≤ 128 = of.wide.1 in
    let is : high - low + 1 ≡ w = ap₂ (λ (a b : ℕ). a - b + 1) up down ∙ sym size in
    record {
      is = is;
      fits = (subst (λ (k : ℕ). high < k) (sym of.is) (subst (λ (k : ℕ). k < v) (sym up) within), (subst (λ (k : ℕ). low ≤ k) (sym up) (subst (λ (k : ℕ). k ≤ h) (sym down) order), of.fits));
      wide = (omega arith, omega arith);
    }

module _ (names : Names) (numbers : Numbers) (W : Env ℕ) (P Q : Ref → Type 0)
    (vector_is : (r : Ref) → P r → (w : ℕ) → (scope_over names).width r ≡ Some w → IsVectorAt W (numbers r.path) w)
    (array_is : (r : Ref) → Q r → (w k : ℕ) → (scope_over names).element r ≡ Some w → (scope_over names).place r ≡ Some k → IsArrayAt W (numbers r.path) w k) where
  abbrev scope : Scope
  scope = scope_over names

  abbrev Placed : List (Ref × Tree) → Type 0
  Placed as_ = (a : Ref × Tree) → IsIn a as_ → Q a.0

  name_translates : (r : Ref) → AllAre P (name_in scope r) → (w : ℕ) → scope.width r ≡ Some w → Translates W (meant (names (ref_name r)) (numbers r.path)) w
  name_translates r named w wide = by_entry (names (ref_name r)) refl
    where
      free : (o : Option Entry) → names (ref_name r) ≡ o → constant_number o ≡ None → Translates W (signal (numbers r.path)) w
      free o e none =
          let number : scope.number r ≡ None = ap constant_number e ∙ none in
          signal_translates W (numbers r.path) w (vector_is r (named r (subst (λ (c : Option ℕ). IsIn r (cond (is_none c) (r ∷ []) [])) (sym number) (inl refl))) w wide)

      by_entry : (o : Option Entry) → names (ref_name r) ≡ o → Translates W (meant o (numbers r.path)) w
      by_entry None e = free None e refl
      by_entry (Some (port q)) e = free (Some (port q)) e refl
      by_entry (Some (local l)) e = free (Some (local l)) e refl
      by_entry (Some (constant c)) e = number_translates W c.value c.width w (sym (ap (entry_width names) e) ∙ wide)

  mutual
    pub translates : (e : Tree) → AllAre P (names_in scope e) → Placed (elements_in e) → (w : ℕ) → width scope e ≡ Some w → Translates W (translated names numbers e) w
    translates (number n written at) named placed w e = number_translates W n written w e
    translates (whole of) named placed w e = name_translates of named w e
    translates (bit of place at) named placed w e =
        let b = bit_parts (scope.count place) (scope.width of) w e in
        let v = name_translates of named b.1 b.3 in
        let less : b.0 < b.1 = b.4 in
        let most : b.1 ≤ 128 = v.wide.1 in
        let n = counted_is names place b.0 b.2 (omega arith) in
        let one : w ≡ b.0 - b.0 + 1 = b.5 ∙ (omega arith) in
        slice_translates W (meant (names (ref_name of)) (numbers of.path)) b.1 (counted names place) (counted names place) b.0 b.0 w v n n b.4 (omega arith) one
    translates (slice of high low at) named placed w e =
        let s = widths.slice_is (scope.count high) (scope.count low) (scope.width of) w e in
        let v = name_translates of named s.2 s.5 in
        let less : s.0 < s.2 = s.6 in
        let order : s.1 ≤ s.0 = s.7 in
        let most : s.2 ≤ 128 = v.wide.1 in
        slice_translates W (meant (names (ref_name of)) (numbers of.path)) s.2 (counted names high) (counted names low) s.0 s.1 w v
        (counted_is names high s.0 s.3 (omega arith)) (counted_is names low s.1 s.4 (omega arith)) s.6 s.7 s.8
    translates (index of place at) named placed w e =
        let d = widths.defined_is (scope.element of) (same_width (scope.place of) (width scope place)) w e in
        let k = widths.same_is (scope.place of) (width scope place) d.1.0 d.1.1 in
        element_translates W (numbers of.path) w d.1.0 (translated names numbers place) (array_is of (placed (of, place) (inl refl)) w d.1.0 d.0 k.0) (translates place named (λ a is. placed a (inr is)) d.1.0 k.1)
    translates (concat parts at) named placed w e =
        let c = widths.checked_is (total_width scope parts) w e in
        let p = parts_translate parts named placed w c.0 c.2 in
        record { is = p.0; fits = (subst IsWidth (sym p.0) (c.1, c.2), p.1); wide = (c.1, c.2) }
    translates (negation e at) named placed w f =
        let x = translates e named placed w f in
        record { is = x.is; fits = (subst IsWidth (sym x.is) x.wide, (x.fits, tt)); wide = x.wide }
    translates (binary o a b at) named placed w e =
        let p = widths.operator_parts o (width scope a) (width scope b) w e in
        let x = translates a (λ r is. named r (in_front r (names_in scope a) (names_in scope b) is)) (λ r is. placed r (in_front r (elements_in a) (elements_in b) is)) p.0 p.2 in
        let y = translates b (λ r is. named r (in_back r (names_in scope a) (names_in scope b) is)) (λ r is. placed r (in_back r (elements_in a) (elements_in b) is)) p.1 p.3 in
        let makes : operator_width o (Some p.0) (Some p.1) ≡ Some w = sym (ap₂ (operator_width o) p.2 p.3) ∙ e in
        let k = operates o p.0 p.1 w makes x.wide y.wide in
        let two : flat_value.width W (translated names numbers a) ∷ flat_value.width W (translated names numbers b) ∷ [] ≡ p.0 ∷ p.1 ∷ [] = ap₂ (λ (g h : ℕ). g ∷ h ∷ []) x.is y.is in
        record {
          is = ap (op_width o) two ∙ k.makes;
          fits = (subst (Suits o) (sym two) k.suits, (x.fits, (y.fits, tt)));
          wide = widths.operator_narrow o p.0 p.1 w makes x.wide.0 x.wide.1;
        }
    translates (choice test first second at) named placed w e =
        let d = widths.defined_is (same_width (width scope first) (width scope second)) (same_width (Some 1) (width scope test)) w e in
        let s = widths.same_is (width scope first) (width scope second) w d.0 in
        let t = widths.same_is (Some 1) (width scope test) d.1.0 d.1.1 in
        let one : width scope test ≡ Some 1 = t.1 ∙ sym t.0 in
        let n = λ (r : Ref) (is : IsIn r (names_in scope first ++ names_in scope second)). named r (in_back r (names_in scope test) (names_in scope first ++ names_in scope second) is) in
        let q = λ (a : Ref × Tree) (is : IsIn a (elements_in first ++ elements_in second)). placed a (in_back a (elements_in test) (elements_in first ++ elements_in second) is) in
        let x = translates test (λ r is. named r (in_front r (names_in scope test) (names_in scope first ++ names_in scope second) is)) (λ a is. placed a (in_front a (elements_in test) (elements_in first ++ elements_in second) is)) 1 one in
        let y = translates first (λ r is. n r (in_front r (names_in scope first) (names_in scope second) is)) (λ a is. q a (in_front a (elements_in first) (elements_in second) is)) w s.0 in
        let z = translates second (λ r is. n r (in_back r (names_in scope first) (names_in scope second) is)) (λ a is. q a (in_back a (elements_in first) (elements_in second) is)) w s.1 in
        record {
          is = y.is;
          fits = ((x.is, (subst IsWidth (sym y.is) y.wide, z.is ∙ sym y.is)), (x.fits, (y.fits, (z.fits, tt))));
          wide = y.wide;
        }

    parts_translate : (ps : Parts) → AllAre P (part_names_in scope ps) → Placed (part_elements_in ps) → (w : ℕ) → total_width scope ps ≡ Some w → w ≤ 128 →
        (sum_of (flat_value.widths W (translated_parts names numbers ps)) ≡ w) × AllFit W (translated_parts names numbers ps)
    parts_translate no_part named placed w e most = (some_same 0 w e, tt)
    parts_translate (one_part e times behind) named placed w f most =
        let j = widths.joined_is (repeated_width (width scope e) (scope.count times)) (total_width scope behind) w f in
        let r = widths.repeated_is (width scope e) (scope.count times) j.0 j.2 in
        let all : w ≡ j.0 + j.1 = j.4 in
        let size : j.0 ≡ r.1 * r.0 = r.5 in
        let part = translates e (λ r is. named r (in_front r (names_in scope e) (part_names_in scope behind) is)) (λ a is. placed a (in_front a (elements_in e) (part_elements_in behind) is)) r.0 r.2 in
        let more = parts_translate behind (λ r is. named r (in_back r (names_in scope e) (part_names_in scope behind) is)) (λ a is. placed a (in_back a (elements_in e) (part_elements_in behind) is)) j.1 j.3 (omega arith) in
        let less : r.1 * r.0 ≤ w = omega arith in
        let n = counted_is names times r.1 r.3 (few_times r.1 r.0 w less part.wide.0 most) in
        let again = repeats W (translated names numbers e) (counted names times) r.0 r.1 w part n r.4 less most in
        (ap₂ (λ (a b : ℕ). a + b) again.is more.0 ∙ (omega arith), (again.fits, more.1))

  module _ (N : Env ℕ) (read : Ref → ℕ → ℕ)
      (vector_read : (r : Ref) → P r → elements N (numbers r.path) ≡ read r 0 ∷ [])
      (array_read : (r : Ref) → Q r → (k : ℕ) → scope.place r ≡ Some k → (i : ℕ) → i < 2 ^ k → number_in (elements N (numbers r.path)) i ≡ read r i) where
    abbrev pub Within : List (Ref × Tree) → Type 0
    Within as_ = (a : Ref × Tree) → IsIn a as_ → (k : ℕ) → scope.place a.0 ≡ Some k → value scope a.1 read < 2 ^ k

    name_means : (r : Ref) → AllAre P (name_in scope r) → flat_value.value W N (meant (names (ref_name r)) (numbers r.path)) ≡ or_read (scope.number r) (read r 0)
    name_means r named = by_entry (names (ref_name r)) refl
      where
        free : (o : Option Entry) → names (ref_name r) ≡ o → constant_number o ≡ None → flat_value.value W N (signal (numbers r.path)) ≡ read r 0
        free o e none =
            let number : scope.number r ≡ None = ap constant_number e ∙ none in
            ap (λ (l : List ℕ). get_or l 0 0) (vector_read r (named r (subst (λ (c : Option ℕ). IsIn r (cond (is_none c) (r ∷ []) [])) (sym number) (inl refl))))

        by_entry : (o : Option Entry) → names (ref_name r) ≡ o → flat_value.value W N (meant o (numbers r.path)) ≡ or_read (constant_number o) (read r 0)
        by_entry None e = free None e refl
        by_entry (Some (port q)) e = free (Some (port q)) e refl
        by_entry (Some (local l)) e = free (Some (local l)) e refl
        by_entry (Some (constant c)) e = refl

    bit_means : (x n : ℕ) → slice_of x n n ≡ bit_at x n
    bit_means x n = let e : n - n + 1 ≡ 1 = omega arith in ap (λ (k : ℕ). x / 2 ^ n % 2 ^ k) e

    mutual
      pub means : (e : Tree) → AllAre P (names_in scope e) → Placed (elements_in e) → Within (elements_in e) → (w : ℕ) → width scope e ≡ Some w → flat_value.value W N (translated names numbers e) ≡ value scope e read
      means (number n written at) named placed within w e = refl
      means (whole of) named placed within w e = name_means of named
      means (bit of place at) named placed within w e =
          let b = bit_parts (scope.count place) (scope.width of) w e in
          let v = name_translates of named b.1 b.3 in
          let less : b.0 < b.1 = b.4 in
          let most : b.1 ≤ 128 = v.wide.1 in
          let n : counted names place ≡ or_zero (scope.count place) = counted_is names place b.0 b.2 (omega arith) ∙ sym (ap or_zero b.2) in
          ap₂ (λ (x k : ℕ). slice_of x k k) (name_means of named) n ∙ bit_means (or_read (scope.number of) (read of 0)) (or_zero (scope.count place))
      means (slice of high low at) named placed within w e =
          let s = widths.slice_is (scope.count high) (scope.count low) (scope.width of) w e in
          let v = name_translates of named s.2 s.5 in
          let less : s.0 < s.2 = s.6 in
          let order : s.1 ≤ s.0 = s.7 in
          let most : s.2 ≤ 128 = v.wide.1 in
          let h : counted names high ≡ or_zero (scope.count high) = counted_is names high s.0 s.3 (omega arith) ∙ sym (ap or_zero s.3) in
          let l : counted names low ≡ or_zero (scope.count low) = counted_is names low s.1 s.4 (omega arith) ∙ sym (ap or_zero s.4) in
          ap₂ (λ (a b : ℕ). slice_of (flat_value.value W N (meant (names (ref_name of)) (numbers of.path))) a b) h l
          ∙ ap (λ (x : ℕ). slice_of x (or_zero (scope.count high)) (or_zero (scope.count low))) (name_means of named)
      means (index of place at) named placed within w e =
          let d = widths.defined_is (scope.element of) (same_width (scope.place of) (width scope place)) w e in
          let k = widths.same_is (scope.place of) (width scope place) d.1.0 d.1.1 in
          ap (number_in (elements N (numbers of.path))) (means place named (λ a is. placed a (inr is)) (λ a is. within a (inr is)) d.1.0 k.1)
          ∙ array_read of (placed (of, place) (inl refl)) d.1.0 k.0 (value scope place read) (within (of, place) (inl refl) d.1.0 k.0)
      means (concat parts at) named placed within w e =
          let c = widths.checked_is (total_width scope parts) w e in
          parts_mean parts named placed within w c.0 c.2
      means (negation e at) named placed within w f =
          let x = translates e named placed w f in
          ap₂ inverted (x.is ∙ sym (ap or_zero f)) (means e named placed within w f)
      means (binary o a b at) named placed within w e =
          let p = widths.operator_parts o (width scope a) (width scope b) w e in
          let na = λ (r : Ref) (is : IsIn r (names_in scope a)). named r (in_front r (names_in scope a) (names_in scope b) is) in
          let nb = λ (r : Ref) (is : IsIn r (names_in scope b)). named r (in_back r (names_in scope a) (names_in scope b) is) in
          let pa = λ (r : Ref × Tree) (is : IsIn r (elements_in a)). placed r (in_front r (elements_in a) (elements_in b) is) in
          let pb = λ (r : Ref × Tree) (is : IsIn r (elements_in b)). placed r (in_back r (elements_in a) (elements_in b) is) in
          let x = translates a na pa p.0 p.2 in
          let y = translates b nb pb p.1 p.3 in
          let makes : operator_width o (Some p.0) (Some p.1) ≡ Some w = sym (ap₂ (operator_width o) p.2 p.3) ∙ e in
          let k = operates o p.0 p.1 w makes x.wide y.wide in
          let two : flat_value.width W (translated names numbers a) ∷ flat_value.width W (translated names numbers b) ∷ [] ≡ p.0 ∷ p.1 ∷ [] = ap₂ (λ (g h : ℕ). g ∷ h ∷ []) x.is y.is in
          let works : op_works o (flat_value.width W (translated names numbers a) ∷ flat_value.width W (translated names numbers b) ∷ []) ≡ or_zero (width scope a) = ap (op_works o) two ∙ k.works ∙ sym (ap or_zero p.2) in
          op_of_two o (op_works o (flat_value.width W (translated names numbers a) ∷ flat_value.width W (translated names numbers b) ∷ [])) (flat_value.value W N (translated names numbers a)) (flat_value.value W N (translated names numbers b))
          ∙ ap (λ (k : ℕ). operate o k (flat_value.value W N (translated names numbers a)) (flat_value.value W N (translated names numbers b))) works
          ∙ ap₂ (operate o (or_zero (width scope a)))
          (means a na pa (λ c is. within c (in_front c (elements_in a) (elements_in b) is)) p.0 p.2)
          (means b nb pb (λ c is. within c (in_back c (elements_in a) (elements_in b) is)) p.1 p.3)
      means (choice test first second at) named placed within w e =
          let d = widths.defined_is (same_width (width scope first) (width scope second)) (same_width (Some 1) (width scope test)) w e in
          let s = widths.same_is (width scope first) (width scope second) w d.0 in
          let t = widths.same_is (Some 1) (width scope test) d.1.0 d.1.1 in
          let n = λ (r : Ref) (is : IsIn r (names_in scope first ++ names_in scope second)). named r (in_back r (names_in scope test) (names_in scope first ++ names_in scope second) is) in
          let q = λ (a : Ref × Tree) (is : IsIn a (elements_in first ++ elements_in second)). placed a (in_back a (elements_in test) (elements_in first ++ elements_in second) is) in
          let h = λ (a : Ref × Tree) (is : IsIn a (elements_in first ++ elements_in second)). within a (in_back a (elements_in test) (elements_in first ++ elements_in second) is) in
          let x = means test (λ r is. named r (in_front r (names_in scope test) (names_in scope first ++ names_in scope second) is)) (λ a is. placed a (in_front a (elements_in test) (elements_in first ++ elements_in second) is))
          (λ a is. within a (in_front a (elements_in test) (elements_in first ++ elements_in second) is)) d.1.0 t.1 in
          let y = means first (λ r is. n r (in_front r (names_in scope first) (names_in scope second) is)) (λ a is. q a (in_front a (elements_in first) (elements_in second) is)) (λ a is. h a (in_front a (elements_in first) (elements_in second) is)) w s.0 in
          let z = means second (λ r is. n r (in_back r (names_in scope first) (names_in scope second) is)) (λ a is. q a (in_back a (elements_in first) (elements_in second) is)) (λ a is. h a (in_back a (elements_in first) (elements_in second) is)) w s.1 in
          ap (λ (k : ℕ). cond (nat_eq k 1) (flat_value.value W N (translated names numbers first)) (flat_value.value W N (translated names numbers second))) x
          ∙ ap₂ (λ (a b : ℕ). cond (nat_eq (value scope test read) 1) a b) y z

      parts_mean : (ps : Parts) → AllAre P (part_names_in scope ps) → Placed (part_elements_in ps) → Within (part_elements_in ps) → (w : ℕ) → total_width scope ps ≡ Some w → w ≤ 128 →
          joined_all (flat_value.widths W (translated_parts names numbers ps)) (flat_value.values W N (translated_parts names numbers ps)) ≡ value_of_parts scope ps read
      parts_mean no_part named placed within w e most = refl
      parts_mean (one_part e times behind) named placed within w f most =
          let j = widths.joined_is (repeated_width (width scope e) (scope.count times)) (total_width scope behind) w f in
          let r = widths.repeated_is (width scope e) (scope.count times) j.0 j.2 in
          let all : w ≡ j.0 + j.1 = j.4 in
          let size : j.0 ≡ r.1 * r.0 = r.5 in
          let ne = λ (r : Ref) (is : IsIn r (names_in scope e)). named r (in_front r (names_in scope e) (part_names_in scope behind) is) in
          let nb = λ (r : Ref) (is : IsIn r (part_names_in scope behind)). named r (in_back r (names_in scope e) (part_names_in scope behind) is) in
          let pe = λ (a : Ref × Tree) (is : IsIn a (elements_in e)). placed a (in_front a (elements_in e) (part_elements_in behind) is) in
          let pb = λ (a : Ref × Tree) (is : IsIn a (part_elements_in behind)). placed a (in_back a (elements_in e) (part_elements_in behind) is) in
          let part = translates e ne pe r.0 r.2 in
          let rest = parts_translate behind nb pb j.1 j.3 (omega arith) in
          let less : r.1 * r.0 ≤ w = omega arith in
          let n = counted_is names times r.1 r.3 (few_times r.1 r.0 w less part.wide.0 most) in
          let x = means e ne pe (λ c is. within c (in_front c (elements_in e) (part_elements_in behind) is)) r.0 r.2 in
          let y = parts_mean behind nb pb (λ c is. within c (in_back c (elements_in e) (part_elements_in behind) is)) j.1 j.3 (omega arith) in
          let times_is : counted names times ≡ or_zero (scope.count times) = n ∙ sym (ap or_zero r.3) in
          let wide_is : flat_value.width W (translated names numbers e) ≡ or_zero (width scope e) = part.is ∙ sym (ap or_zero r.2) in
          let copies : joined_all (replicate (counted names times) (flat_value.width W (translated names numbers e))) (replicate (counted names times) (flat_value.value W N (translated names numbers e)))
          ≡ repeated (or_zero (scope.count times)) (or_zero (width scope e)) (value scope e read) =
          joined_same (counted names times) (flat_value.width W (translated names numbers e)) (flat_value.value W N (translated names numbers e))
          ∙ ap₂ (λ (a b : ℕ). repeated a b (flat_value.value W N (translated names numbers e))) times_is wide_is
          ∙ ap (repeated (or_zero (scope.count times)) (or_zero (width scope e))) x in
          ap₂ (λ (a b : ℕ). joined a b (joined_all (flat_value.widths W (translated_parts names numbers behind)) (flat_value.values W N (translated_parts names numbers behind)))) copies (rest.0 ∙ sym (ap or_zero j.3))
          ∙ ap (joined (repeated (or_zero (scope.count times)) (or_zero (width scope e)) (value scope e read)) (or_zero (total_width scope behind))) y
