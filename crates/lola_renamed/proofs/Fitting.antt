-- A renamed expression has the width of the expression.
use Rattle.std.proofs.Common.{◌≡◌, ℕ, ◌+◌, ◌-◌, ◌*◌, ◌^◌, ◌<◌, ◌≤◌, List, [], ◌∷◌, ◌++◌, replicate, get_or, Option, Some, None, refl, sym, ◌∙◌, ap, ap₂, subst, inl, inr, arith}
use Rattle.std.proofs.lemmas.Nat.{mul-le, pow_pos}
use Rattle.lola_bits.specs.declared.op.Op.{Op}
use Rattle.lola_bits.specs.declared.op.Op.TheVariants as op
use Rattle.lola_bits.specs.Lists.{IsIn}
use Rattle.lola_bits.specs.Number.{operate}
use Rattle.lola_bits.specs.Vector.{FitsWidth}
use Rattle.lola_bits.proofs.Lists.{in_front, in_back}
use Rattle.lola_bits.proofs.Options.{some_same, nothing}
use Rattle.lola_alg.specs.Means.{IsWidth, Suits, op_width, op_works, op_number}
use Rattle.lola_flat.specs.Tree.{ExprTree, element, repeat}
use Rattle.lola_flat.specs.Tree as flat
use Rattle.lola_flat.specs.Value.{Env, elements, sum_of, IsArrayOf, Fits, AllFit}
use Rattle.lola_flat.specs.Value as flat_value
use Rattle.lola_tree.specs.declared.named.Ref.{Ref}
use Rattle.lola_tree.specs.Tree.{Tree, number, whole, bit, slice, index, concat, negation, binary, choice, Parts, no_part, one_part}
use Rattle.lola_tree.specs.Width.{Scope, width, total_width, written_width, number_width, same_width, defined_width, bit_width, repeated_width, operator_width}
use Rattle.lola_tree.specs.design.Chains.{names_in, part_names_in, elements_in, part_elements_in}
use Rattle.lola_values.proofs.Widths as widths
use Rattle.lola_renamed.specs.Renamed.{Meant, small, renamed, renamed_parts}
use Rattle.lola_renamed.specs.Reads.{FitsIn, IsArrayAt, Widens}
use Rattle.lola_renamed.proofs.Copies.{small_is, sum_same, length_same, first_same, all_are}

pub number_fits : (W : Env ℕ) (n : ℕ) (written : Option ℕ) (w : ℕ) → number_width n written ≡ Some w → FitsIn W (flat.number (small (written_width written)) n) w
number_fits W n written w e =
    let k = widths.number_in n written w e in
    let fits : FitsWidth w n = k.1 in
    let most : w ≤ 128 = fits.at_most in
    let same : small (written_width written) ≡ w = ap small k.0 ∙ small_is w (omega arith) in
    subst (λ (u : ℕ). FitsIn W (flat.number u n) w) (sym same)
    (record { is = refl; fits = ((fits.positive, fits.at_most), fits.below); wide = (fits.positive, fits.at_most) })

-- a bit of a vector
pub bit_parts : (place width : Option ℕ) (w : ℕ) → bit_width place width ≡ Some w → (n : ℕ) × (v : ℕ) × (place ≡ Some n) × (width ≡ Some v) × (n < v) × (w ≡ 1)
bit_parts None width w e = nothing w e
bit_parts (Some n) None w e = nothing w e
bit_parts (Some n) (Some v) w e = let b = widths.bit_is (Some n) v w e in (n, v, refl, refl, let s : Some n ≡ Some b.0 = b.1 in let t : n ≡ b.0 = some_same n b.0 s in subst (λ (k : ℕ). k < v) (sym t) b.2, b.3)

-- what an operator makes of two vectors
pub record Operates (o : Op) (v u w : ℕ) : Type 0 where
  pub suits : Suits o (v ∷ u ∷ [])
  pub makes : op_width o (v ∷ u ∷ []) ≡ w
  pub works : op_works o (v ∷ u ∷ []) ≡ v

one_bit : (v u w : ℕ) → defined_width (Some 1) (same_width (Some v) (Some u)) ≡ Some w → (1 ≡ w) × (u ≡ v)
one_bit v u w e =
    let d = widths.defined_is (Some 1) (same_width (Some v) (Some u)) w e in
    let s = widths.same_is (Some v) (Some u) d.1.0 d.1.1 in
    (some_same 1 w d.0, some_same u v (s.1 ∙ sym s.0))

two_same : (v u w : ℕ) → same_width (Some v) (Some u) ≡ Some w → (v ≡ w) × (u ≡ v)
two_same v u w e = let s = widths.same_is (Some v) (Some u) w e in (some_same v w s.0, some_same u v (s.1 ∙ sym s.0))

pub operates : (o : Op) (v u w : ℕ) → operator_width o (Some v) (Some u) ≡ Some w → IsWidth v → IsWidth u → Operates o v u w
operates op.Not v u w e a b = nothing w e
operates op.Mux v u w e a b = nothing w e
operates op.Eq v u w e a b = let s = one_bit v u w e in record { suits = (a, s.1); makes = s.0; works = refl }
operates op.Ne v u w e a b = let s = one_bit v u w e in record { suits = (a, s.1); makes = s.0; works = refl }
operates op.Lt v u w e a b = let s = one_bit v u w e in record { suits = (a, s.1); makes = s.0; works = refl }
operates op.Le v u w e a b = let s = one_bit v u w e in record { suits = (a, s.1); makes = s.0; works = refl }
operates op.Gt v u w e a b = let s = one_bit v u w e in record { suits = (a, s.1); makes = s.0; works = refl }
operates op.Ge v u w e a b = let s = one_bit v u w e in record { suits = (a, s.1); makes = s.0; works = refl }
operates op.And v u w e a b = let s = two_same v u w e in record { suits = (a, s.1); makes = s.0; works = refl }
operates op.Or v u w e a b = let s = two_same v u w e in record { suits = (a, s.1); makes = s.0; works = refl }
operates op.Xor v u w e a b = let s = two_same v u w e in record { suits = (a, s.1); makes = s.0; works = refl }
operates op.Add v u w e a b = let s = two_same v u w e in record { suits = (a, s.1); makes = s.0; works = refl }
operates op.Sub v u w e a b = let s = two_same v u w e in record { suits = (a, s.1); makes = s.0; works = refl }
operates op.Shl v u w e a b = record { suits = (a, b); makes = some_same v w e; works = refl }
operates op.Shr v u w e a b = record { suits = (a, b); makes = some_same v w e; works = refl }
operates op.Asr v u w e a b = record { suits = (a, b); makes = some_same v w e; works = refl }
operates op.Ror v u w e a b = record { suits = (a, b); makes = some_same v w e; works = refl }

pub op_of_two : (o : Op) (w x y : ℕ) → op_number o w (x ∷ y ∷ []) ≡ operate o w x y
op_of_two op.Not w x y = refl
op_of_two op.Mux w x y = refl
op_of_two op.Eq w x y = refl
op_of_two op.Ne w x y = refl
op_of_two op.Lt w x y = refl
op_of_two op.Le w x y = refl
op_of_two op.Gt w x y = refl
op_of_two op.Ge w x y = refl
op_of_two op.And w x y = refl
op_of_two op.Or w x y = refl
op_of_two op.Xor w x y = refl
op_of_two op.Add w x y = refl
op_of_two op.Sub w x y = refl
op_of_two op.Shl w x y = refl
op_of_two op.Shr w x y = refl
op_of_two op.Asr w x y = refl
op_of_two op.Ror w x y = refl

-- a part several times
pub few_times : (n v w : ℕ) → n * v ≤ w → 1 ≤ v → w ≤ 128 → n ≤ 1024
few_times n v w size some most = let h : n * 1 ≤ n * v = mul-le n 1 n v (omega arith) some in omega arith

some_times : (n v : ℕ) → 1 ≤ n → 1 ≤ v → 1 ≤ n * v
some_times n v a b = let h : 1 * 1 ≤ n * v = mul-le 1 1 n v a b in omega arith

pub record Repeats (W : Env ℕ) (e : ExprTree) (times v n : ℕ) : Type 0 where
  pub counts : times ≡ n
  pub is : flat_value.width W (repeat e times) ≡ n * v
  pub fits : Fits W (repeat e times)

pub repeats : (W : Env ℕ) (e : ExprTree) (times v n w : ℕ) → FitsIn W e v → times ≡ n → 1 ≤ n → n * v ≤ w → w ≤ 128 → Repeats W e times v n
repeats W e times v n w part counts some size most =
    let is : flat_value.width W (repeat e times) ≡ n * v = ap₂ (λ (k u : ℕ). sum_of (replicate k u)) counts part.is ∙ sum_same n v in
    let low : 1 ≤ n * v = some_times n v some part.wide.0 in
    record { counts = counts; is = is; fits = (subst IsWidth (sym is) (low, omega arith), part.fits) }

-- an element of an array
array_of_width : (k w : ℕ) → IsWidth w → (1 ≤ k) × (k ≤ 10) → IsArrayOf (replicate (2 ^ k) w) k
array_of_width k w wide places =
    let some = pow_pos k in
    let first : get_or (replicate (2 ^ k) w) 0 0 ≡ w = first_same (2 ^ k) w (omega arith) in
    record { wide = subst IsWidth (sym first) wide; places = places; count = length_same (2 ^ k) w; each = all_are (2 ^ k) w (get_or (replicate (2 ^ k) w) 0 0) first }

element_fits : (W : Env ℕ) (n w k : ℕ) (place : ExprTree) → IsArrayAt W n w k → FitsIn W place k → FitsIn W (element n place) w
element_fits W n w k place at inner =
    let some = pow_pos k in
    let array : IsArrayOf (elements W n) (flat_value.width W place) =
    subst (λ (l : List ℕ). IsArrayOf l (flat_value.width W place)) (sym at.is) (subst (IsArrayOf (replicate (2 ^ k) w)) (sym inner.is) (array_of_width k w at.wide at.places)) in
    record {
      is = ap (λ (l : List ℕ). get_or l 0 0) at.is ∙ first_same (2 ^ k) w (omega arith);
      fits = (at.inside, (array, inner.fits));
      wide = at.wide;
    }

slice_fits : (W : Env ℕ) (e : ExprTree) (v high low h l w : ℕ) → FitsIn W e v → high ≡ h → low ≡ l → h < v → l ≤ h → w ≡ h - l + 1 → FitsIn W (flat.slice e high low) w
slice_fits W e v high low h l w of up down within order size =
    let most : v ≤ 128 = of.wide.1 in
    let is : high - low + 1 ≡ w = ap₂ (λ (a b : ℕ). a - b + 1) up down ∙ sym size in
    record {
      is = is;
      fits = (subst (λ (k : ℕ). high < k) (sym of.is) (subst (λ (k : ℕ). k < v) (sym up) within), (subst (λ (k : ℕ). low ≤ k) (sym up) (subst (λ (k : ℕ). k ≤ h) (sym down) order), of.fits));
      wide = (omega arith, omega arith);
    }

module _ (scope : Scope) (names : Meant) (W : Env ℕ) (P Q : Ref → Type 0) (h : Widens scope names W P Q) where
  abbrev AllAre : List Ref → Type 0
  AllAre rs = (r : Ref) → IsIn r rs → P r

  abbrev Placed : List (Ref × Tree) → Type 0
  Placed as_ = (a : Ref × Tree) → IsIn a as_ → Q a.0

  mutual
    pub all_fit : (e : Tree) → AllAre (names_in scope e) → Placed (elements_in e) → (w : ℕ) → width scope e ≡ Some w → FitsIn W (renamed names e) w
    all_fit (number n written at) named placed w e = number_fits W n written w e
    all_fit (whole of) named placed w e = h.vector of named w e
    all_fit (bit of place at) named placed w e =
        let b = bit_parts (scope.count place) (scope.width of) w e in
        let v = h.vector of named b.1 b.3 in
        let less : b.0 < b.1 = b.4 in
        let most : b.1 ≤ 128 = v.wide.1 in
        let n = h.count place b.0 b.2 (omega arith) in
        let one : w ≡ b.0 - b.0 + 1 = b.5 ∙ (omega arith) in
        slice_fits W (names.vector of) b.1 (names.count place) (names.count place) b.0 b.0 w v n n b.4 (omega arith) one
    all_fit (slice of high low at) named placed w e =
        let s = widths.slice_is (scope.count high) (scope.count low) (scope.width of) w e in
        let v = h.vector of named s.2 s.5 in
        let less : s.0 < s.2 = s.6 in
        let order : s.1 ≤ s.0 = s.7 in
        let most : s.2 ≤ 128 = v.wide.1 in
        slice_fits W (names.vector of) s.2 (names.count high) (names.count low) s.0 s.1 w v
        (h.count high s.0 s.3 (omega arith)) (h.count low s.1 s.4 (omega arith)) s.6 s.7 s.8
    all_fit (index of place at) named placed w e =
        let d = widths.defined_is (scope.element of) (same_width (scope.place of) (width scope place)) w e in
        let k = widths.same_is (scope.place of) (width scope place) d.1.0 d.1.1 in
        element_fits W (names.array of) w d.1.0 (renamed names place) (h.array of (placed (of, place) (inl refl)) w d.1.0 d.0 k.0) (all_fit place named (λ a is. placed a (inr is)) d.1.0 k.1)
    all_fit (concat parts at) named placed w e =
        let c = widths.checked_is (total_width scope parts) w e in
        let p = parts_fit parts named placed w c.0 c.2 in
        record { is = p.0; fits = (subst IsWidth (sym p.0) (c.1, c.2), p.1); wide = (c.1, c.2) }
    all_fit (negation e at) named placed w f =
        let x = all_fit e named placed w f in
        record { is = x.is; fits = (subst IsWidth (sym x.is) x.wide, (x.fits, tt)); wide = x.wide }
    all_fit (binary o a b at) named placed w e =
        let p = widths.operator_parts o (width scope a) (width scope b) w e in
        let x = all_fit a (λ r is. named r (in_front r (names_in scope a) (names_in scope b) is)) (λ r is. placed r (in_front r (elements_in a) (elements_in b) is)) p.0 p.2 in
        let y = all_fit b (λ r is. named r (in_back r (names_in scope a) (names_in scope b) is)) (λ r is. placed r (in_back r (elements_in a) (elements_in b) is)) p.1 p.3 in
        let makes : operator_width o (Some p.0) (Some p.1) ≡ Some w = sym (ap₂ (operator_width o) p.2 p.3) ∙ e in
        let k = operates o p.0 p.1 w makes x.wide y.wide in
        let two : flat_value.width W (renamed names a) ∷ flat_value.width W (renamed names b) ∷ [] ≡ p.0 ∷ p.1 ∷ [] = ap₂ (λ (g h : ℕ). g ∷ h ∷ []) x.is y.is in
        record {
          is = ap (op_width o) two ∙ k.makes;
          fits = (subst (Suits o) (sym two) k.suits, (x.fits, (y.fits, tt)));
          wide = widths.operator_narrow o p.0 p.1 w makes x.wide.0 x.wide.1;
        }
    all_fit (choice test first second at) named placed w e =
        let d = widths.defined_is (same_width (width scope first) (width scope second)) (same_width (Some 1) (width scope test)) w e in
        let s = widths.same_is (width scope first) (width scope second) w d.0 in
        let t = widths.same_is (Some 1) (width scope test) d.1.0 d.1.1 in
        let one : width scope test ≡ Some 1 = t.1 ∙ sym t.0 in
        let n = λ (r : Ref) (is : IsIn r (names_in scope first ++ names_in scope second)). named r (in_back r (names_in scope test) (names_in scope first ++ names_in scope second) is) in
        let q = λ (a : Ref × Tree) (is : IsIn a (elements_in first ++ elements_in second)). placed a (in_back a (elements_in test) (elements_in first ++ elements_in second) is) in
        let x = all_fit test (λ r is. named r (in_front r (names_in scope test) (names_in scope first ++ names_in scope second) is)) (λ a is. placed a (in_front a (elements_in test) (elements_in first ++ elements_in second) is)) 1 one in
        let y = all_fit first (λ r is. n r (in_front r (names_in scope first) (names_in scope second) is)) (λ a is. q a (in_front a (elements_in first) (elements_in second) is)) w s.0 in
        let z = all_fit second (λ r is. n r (in_back r (names_in scope first) (names_in scope second) is)) (λ a is. q a (in_back a (elements_in first) (elements_in second) is)) w s.1 in
        record {
          is = y.is;
          fits = ((x.is, (subst IsWidth (sym y.is) y.wide, z.is ∙ sym y.is)), (x.fits, (y.fits, (z.fits, tt))));
          wide = y.wide;
        }

    pub parts_fit : (ps : Parts) → AllAre (part_names_in scope ps) → Placed (part_elements_in ps) → (w : ℕ) → total_width scope ps ≡ Some w → w ≤ 128 →
        (sum_of (flat_value.widths W (renamed_parts names ps)) ≡ w) × AllFit W (renamed_parts names ps)
    parts_fit no_part named placed w e most = (some_same 0 w e, tt)
    parts_fit (one_part e times behind) named placed w f most =
        let j = widths.joined_is (repeated_width (width scope e) (scope.count times)) (total_width scope behind) w f in
        let r = widths.repeated_is (width scope e) (scope.count times) j.0 j.2 in
        let all : w ≡ j.0 + j.1 = j.4 in
        let size : j.0 ≡ r.1 * r.0 = r.5 in
        let part = all_fit e (λ r is. named r (in_front r (names_in scope e) (part_names_in scope behind) is)) (λ a is. placed a (in_front a (elements_in e) (part_elements_in behind) is)) r.0 r.2 in
        let more = parts_fit behind (λ r is. named r (in_back r (names_in scope e) (part_names_in scope behind) is)) (λ a is. placed a (in_back a (elements_in e) (part_elements_in behind) is)) j.1 j.3 (omega arith) in
        let less : r.1 * r.0 ≤ w = omega arith in
        let n = h.count times r.1 r.3 (few_times r.1 r.0 w less part.wide.0 most) in
        let again = repeats W (renamed names e) (names.count times) r.0 r.1 w part n r.4 less most in
        (ap₂ (λ (a b : ℕ). a + b) again.is more.0 ∙ (omega arith), (again.fits, more.1))
