-- Widths that are defined, taken apart, and put together.
use Rattle.std.proofs.Common.{◌≡◌, ℕ, ◌+◌, ◌-◌, ◌*◌, ◌^◌, ◌<◌, ◌≤◌, true, false, not, ◌&&◌, Option, Some, None, refl, sym, ◌∙◌, ap, subst, arith, inl, inr}
use Rattle.std.specs.Prelude.{nat_lt, nat_eq}
use Rattle.std.proofs.lemmas.Bool.{and_parts, and_from, cases_Bool, cond-true, cond-false}
use Rattle.std.proofs.lemmas.Bool.Decides.{nat_tests}
use Rattle.lola_bits.specs.declared.op.Op.{Op}
use Rattle.lola_bits.specs.declared.op.Op.TheVariants as op
use Rattle.lola_bits.specs.Vector.{FitsWidth}
use Rattle.lola_bits.proofs.Options.{some_same, nothing}
use Rattle.lola_bits.proofs.Tests.{chosen, chosen_yes}
use Rattle.lola_tree.specs.Width.{is_width, checked_width, written_width, is_number, number_width, same_width, defined_width, bit_width, slice_width, operator_width, repeated_width, joined_width}

pub is_below : (m n : ℕ) → nat_lt m n ≡ true → m < n
is_below m n e = grind (arith, nat_tests)

pub below_is : (m n : ℕ) → m < n → nat_lt m n ≡ true
below_is m n h = grind (arith, nat_tests)

pub above_is : (m n : ℕ) → n ≤ m → nat_lt m n ≡ false
above_is m n h = grind (arith, nat_tests)

pub equal_is : (m n : ℕ) → nat_eq m n ≡ true → m ≡ n
equal_is m n e = grind (arith, nat_tests)

pub same_is_equal : (m : ℕ) → nat_eq m m ≡ true
same_is_equal m = grind (arith, nat_tests)

-- widths of 1 to 128 bits
width_test : (n : ℕ) → is_width n ≡ true → (1 ≤ n) × (n ≤ 128)
width_test n e =
    let parts = and_parts (nat_lt 0 n) (nat_lt n 129) e in
    let low = is_below 0 n parts.0 in
    let high = is_below n 129 parts.1 in
    (omega arith, omega arith)

pub is_width_of : (n : ℕ) → 1 ≤ n → n ≤ 128 → is_width n ≡ true
is_width_of n low high = and_from (nat_lt 0 n) (nat_lt n 129) (below_is 0 n (omega arith)) (below_is n 129 (omega arith))

pub checked_is : (o : Option ℕ) (w : ℕ) → checked_width o ≡ Some w → (o ≡ Some w) × (1 ≤ w) × (w ≤ 128)
checked_is None w e = nothing w e
checked_is (Some n) w e =
    let c = chosen (is_width n) n w e in
    let t = width_test n c.0 in
    (ap (λ (m : ℕ). Some m) c.1, subst (λ (m : ℕ). 1 ≤ m) c.1 t.0, subst (λ (m : ℕ). m ≤ 128) c.1 t.1)

pub width_checked : (w : ℕ) → 1 ≤ w → w ≤ 128 → checked_width (Some w) ≡ Some w
width_checked w low high = chosen_yes (is_width w) w (is_width_of w low high)

-- a number in a width
pub number_in : (v : ℕ) (written : Option ℕ) (w : ℕ) → number_width v written ≡ Some w → (written_width written ≡ w) × FitsWidth w v
number_in v written w e =
    let c = chosen (is_number v written) (written_width written) w e in
    let parts = and_parts (is_width (written_width written)) (nat_lt v (2 ^ written_width written)) c.0 in
    let t = width_test (written_width written) parts.0 in
    (c.1, subst (λ (n : ℕ). FitsWidth n v) c.1 (record { positive = t.0; at_most = t.1; below = is_below v (2 ^ written_width written) parts.1 }))

pub number_fits : (v : ℕ) (written : Option ℕ) → FitsWidth (written_width written) v → number_width v written ≡ Some (written_width written)
number_fits v written fits =
    chosen_yes (is_number v written) (written_width written)
    (and_from (is_width (written_width written)) (nat_lt v (2 ^ written_width written)) (is_width_of (written_width written) fits.positive fits.at_most)
    (below_is v (2 ^ written_width written) fits.below))

-- equal widths, and widths beside others
pub same_is : (o p : Option ℕ) (w : ℕ) → same_width o p ≡ Some w → (o ≡ Some w) × (p ≡ Some w)
same_is None p w e = nothing w e
same_is (Some n) None w e = nothing w e
same_is (Some n) (Some m) w e =
    let c = chosen (nat_eq n m) n w e in
    let q : n ≡ m = equal_is n m c.0 in
    (ap (λ (k : ℕ). Some k) c.1, ap (λ (k : ℕ). Some k) (sym q ∙ c.1))

pub same_self : (w : ℕ) → same_width (Some w) (Some w) ≡ Some w
same_self w = chosen_yes (nat_eq w w) w (same_is_equal w)

pub defined_is : (o p : Option ℕ) (w : ℕ) → defined_width o p ≡ Some w → (o ≡ Some w) × ((v : ℕ) × (p ≡ Some v))
defined_is o None w e = nothing w e
defined_is o (Some v) w e = (e, (v, refl))

-- bits and slices within a width
pub bit_is : (place : Option ℕ) (v w : ℕ) → bit_width place (Some v) ≡ Some w → (n : ℕ) × (place ≡ Some n) × (n < v) × (w ≡ 1)
bit_is None v w e = nothing w e
bit_is (Some n) v w e = let c = chosen (nat_lt n v) 1 w e in (n, refl, is_below n v c.0, sym c.1)

pub bit_within : (n v : ℕ) → n < v → bit_width (Some n) (Some v) ≡ Some 1
bit_within n v h = chosen_yes (nat_lt n v) 1 (below_is n v h)

pub slice_is : (high low width : Option ℕ) (w : ℕ) → slice_width high low width ≡ Some w →
    (h : ℕ) × (l : ℕ) × (v : ℕ) × (high ≡ Some h) × (low ≡ Some l) × (width ≡ Some v) × (h < v) × (l ≤ h) × (w ≡ h - l + 1)
slice_is None low width w e = nothing w e
slice_is (Some h) None width w e = nothing w e
slice_is (Some h) (Some l) None w e = nothing w e
slice_is (Some h) (Some l) (Some v) w e =
    let c = chosen (nat_lt h v && not (nat_lt h l)) (h - l + 1) w e in
    let parts = and_parts (nat_lt h v) (not (nat_lt h l)) c.0 in
    (h, l, v, refl, refl, refl, is_below h v parts.0, in_order h l parts.1, sym c.1)
  where
    in_order : (h l : ℕ) → not (nat_lt h l) ≡ true → l ≤ h
    in_order h l e = grind (arith, nat_tests)

pub slice_within : (h l v : ℕ) → h < v → l ≤ h → slice_width (Some h) (Some l) (Some v) ≡ Some (h - l + 1)
slice_within h l v within order = chosen_yes (nat_lt h v && not (nat_lt h l)) (h - l + 1) (and_from (nat_lt h v) (not (nat_lt h l)) (below_is h v within) (ap not (above_is h l order)))

-- what an operator makes is as wide as its first vector, or 1
narrow_one : (a : Option ℕ) (w : ℕ) → defined_width (Some 1) a ≡ Some w → (1 ≤ w) × (w ≤ 128)
narrow_one a w e = let f : 1 ≡ w = some_same 1 w (defined_is (Some 1) a w e).0 in (omega arith, omega arith)

narrow_first : (v u w : ℕ) → same_width (Some v) (Some u) ≡ Some w → 1 ≤ v → v ≤ 128 → (1 ≤ w) × (w ≤ 128)
narrow_first v u w e low high = let f : v ≡ w = some_same v w (same_is (Some v) (Some u) w e).0 in (omega arith, omega arith)

narrow_same : (v w : ℕ) → Some v ≡ Some w → 1 ≤ v → v ≤ 128 → (1 ≤ w) × (w ≤ 128)
narrow_same v w e low high = let f : v ≡ w = some_same v w e in (omega arith, omega arith)

pub operator_narrow : (o : Op) (v u w : ℕ) → operator_width o (Some v) (Some u) ≡ Some w → 1 ≤ v → v ≤ 128 → (1 ≤ w) × (w ≤ 128)
operator_narrow op.Eq v u w e low high = narrow_one (same_width (Some v) (Some u)) w e
operator_narrow op.Ne v u w e low high = narrow_one (same_width (Some v) (Some u)) w e
operator_narrow op.Lt v u w e low high = narrow_one (same_width (Some v) (Some u)) w e
operator_narrow op.Le v u w e low high = narrow_one (same_width (Some v) (Some u)) w e
operator_narrow op.Gt v u w e low high = narrow_one (same_width (Some v) (Some u)) w e
operator_narrow op.Ge v u w e low high = narrow_one (same_width (Some v) (Some u)) w e
operator_narrow op.Shl v u w e low high = narrow_same v w e low high
operator_narrow op.Shr v u w e low high = narrow_same v w e low high
operator_narrow op.Asr v u w e low high = narrow_same v w e low high
operator_narrow op.Ror v u w e low high = narrow_same v w e low high
operator_narrow op.And v u w e low high = narrow_first v u w e low high
operator_narrow op.Or v u w e low high = narrow_first v u w e low high
operator_narrow op.Xor v u w e low high = narrow_first v u w e low high
operator_narrow op.Add v u w e low high = narrow_first v u w e low high
operator_narrow op.Sub v u w e low high = narrow_first v u w e low high
operator_narrow op.Not v u w e low high = nothing w e
operator_narrow op.Mux v u w e low high = nothing w e

-- an operator's vectors have widths
pub operator_parts : (o : Op) (a b : Option ℕ) (w : ℕ) → operator_width o a b ≡ Some w → (v : ℕ) × (u : ℕ) × (a ≡ Some v) × (b ≡ Some u)
operator_parts op.Eq a b w e = let d = defined_is (Some 1) (same_width a b) w e in let s = same_is a b d.1.0 d.1.1 in (d.1.0, d.1.0, s.0, s.1)
operator_parts op.Ne a b w e = let d = defined_is (Some 1) (same_width a b) w e in let s = same_is a b d.1.0 d.1.1 in (d.1.0, d.1.0, s.0, s.1)
operator_parts op.Lt a b w e = let d = defined_is (Some 1) (same_width a b) w e in let s = same_is a b d.1.0 d.1.1 in (d.1.0, d.1.0, s.0, s.1)
operator_parts op.Le a b w e = let d = defined_is (Some 1) (same_width a b) w e in let s = same_is a b d.1.0 d.1.1 in (d.1.0, d.1.0, s.0, s.1)
operator_parts op.Gt a b w e = let d = defined_is (Some 1) (same_width a b) w e in let s = same_is a b d.1.0 d.1.1 in (d.1.0, d.1.0, s.0, s.1)
operator_parts op.Ge a b w e = let d = defined_is (Some 1) (same_width a b) w e in let s = same_is a b d.1.0 d.1.1 in (d.1.0, d.1.0, s.0, s.1)
operator_parts op.Shl a b w e = let d = defined_is a b w e in (w, d.1.0, d.0, d.1.1)
operator_parts op.Shr a b w e = let d = defined_is a b w e in (w, d.1.0, d.0, d.1.1)
operator_parts op.Asr a b w e = let d = defined_is a b w e in (w, d.1.0, d.0, d.1.1)
operator_parts op.Ror a b w e = let d = defined_is a b w e in (w, d.1.0, d.0, d.1.1)
operator_parts op.And a b w e = let s = same_is a b w e in (w, w, s.0, s.1)
operator_parts op.Or a b w e = let s = same_is a b w e in (w, w, s.0, s.1)
operator_parts op.Xor a b w e = let s = same_is a b w e in (w, w, s.0, s.1)
operator_parts op.Add a b w e = let s = same_is a b w e in (w, w, s.0, s.1)
operator_parts op.Sub a b w e = let s = same_is a b w e in (w, w, s.0, s.1)
operator_parts op.Not a b w e = nothing w e
operator_parts op.Mux a b w e = nothing w e

-- repetitions and joins
pub repeated_is : (o times : Option ℕ) (w : ℕ) → repeated_width o times ≡ Some w → (v : ℕ) × (n : ℕ) × (o ≡ Some v) × (times ≡ Some n) × (1 ≤ n) × (w ≡ n * v)
repeated_is None times w e = nothing w e
repeated_is (Some v) None w e = nothing w e
repeated_is (Some v) (Some n) w e = elim (cases_Bool (nat_eq n 0)) [
  | inl none ↦ nothing w (sym (cond-true (nat_eq n 0) None (Some (n * v)) none) ∙ e)
  | inr some ↦ (v, n, refl, refl, not_none n some, sym (some_same (n * v) w (sym (cond-false (nat_eq n 0) None (Some (n * v)) some) ∙ e)))
]
  where
    not_none : (n : ℕ) → nat_eq n 0 ≡ false → 1 ≤ n
    not_none n e = grind (arith, nat_tests)

pub repeated_of : (v n : ℕ) → 1 ≤ n → repeated_width (Some v) (Some n) ≡ Some (n * v)
repeated_of v n some = cond-false (nat_eq n 0) None (Some (n * v)) (not_zero n some)
  where
    not_zero : (n : ℕ) → 1 ≤ n → nat_eq n 0 ≡ false
    not_zero n h = grind (arith, nat_tests)

pub joined_is : (o p : Option ℕ) (w : ℕ) → joined_width o p ≡ Some w → (v : ℕ) × (u : ℕ) × (o ≡ Some v) × (p ≡ Some u) × (w ≡ v + u)
joined_is None p w e = nothing w e
joined_is (Some v) None w e = nothing w e
joined_is (Some v) (Some u) w e = (v, u, refl, refl, sym (some_same (v + u) w e))
