-- The values of names as lists of numbers: taken apart, with one put in, and read back; and the bits among
-- them that a table sees.
use Rattle.std.proofs.Common.{◌≡◌, ℕ, zero, suc, ◌+◌, ◌<◌, ◌≤◌, ◌^◌, Bool, true, false, List, [], ◌∷◌, ◌++◌, length, map, take, drop, Some, None, refl, sym, ap, ap₂, ◌∙◌, subst, arith, inl, inr}
use Rattle.std.specs.Prelude.{bytes_eq, nat_eq, slice_get, string_bytes, if◌then◌else◌}
use Rattle.std.proofs.lemmas.List.{map-append}
use Rattle.std.proofs.lemmas.Bool.{cases_Bool}
use Rattle.lola_bits.specs.Lists.{IsIn, AreDistinct, IsAt}
use Rattle.lola_bits.proofs.Names.{same_name, other_name}
use Rattle.lola_bits.proofs.Places.{get_in}
use Rattle.lola_tree.specs.Value.{Values}
use Rattle.lola_tree.specs.Signals.{values_of}
use Rattle.lola_elab.specs.declared.vector.Vector.{Vector}
use Rattle.lola_elab.specs.Elaborated.{vector_names, vector_widths}
use Rattle.lola_elab.specs.Logic.{bit_number, AreBits}
use Rattle.lola_elab.proofs.Widths.{equal_is}
use Rattle.small_tree.specs.Step.{name_of}
use Rattle.lola_app.specs.Obligations.{without}
use Rattle.lola_app.specs.Trial.{but_one, with_reset, seen}
use Rattle.lola_app.specs.Valuations.{AreWithin}
use Rattle.lola_app.specs.Vectors.{bit_names}

-- bits of two parts
pub front_bits : (xs ys : List ℕ) (bits : List Bool) → AreBits (xs ++ ys) bits → AreBits xs (take (length xs) bits)
front_bits [] ys bits e = refl
front_bits (x ∷ xs) ys [] e = cc
front_bits (x ∷ xs) ys (b ∷ bits) e =
    let head : x ≡ bit_number b = cc in
    let tail : xs ++ ys ≡ map bit_number bits = cc in
    ap₂ (λ (n : ℕ) (ns : List ℕ). n ∷ ns) head (front_bits xs ys bits tail)

pub both_bits : (xs ys : List ℕ) (a b : List Bool) → AreBits xs a → AreBits ys b → AreBits (xs ++ ys) (a ++ b)
both_bits xs ys a b e f = ap₂ (λ (x y : List ℕ). x ++ y) e f ∙ sym (map-append bit_number a b)

-- a number that is 0 or 1 is a bit
pub bit_back : (n : ℕ) → n ≤ 1 → n ≡ bit_number (nat_eq n 1)
bit_back zero low = refl
bit_back (suc zero) low = refl
bit_back (suc (suc n)) low = absurd (omega arith)

-- a bit is no more than 1
pub bit_low : (b : Bool) → bit_number b ≤ 1
bit_low true = omega arith
bit_low false = omega arith

-- the bits among the numbers of vectors are those of the vectors of one bit
pub seen_are : (v : Values) (vs : List Vector) → AreWithin (vector_widths vs) (values_of v (vector_names vs)) → AreBits (values_of v (bit_names vs)) (seen (vector_widths vs) (values_of v (vector_names vs)))
seen_are v [] within = refl
seen_are v (x ∷ xs) within = elim (cases_Bool (nat_eq x.width 1)) [
  | inl e ↦
      let one : x.width ≡ 1 = equal_is x.width 1 e in
      let below : v (string_bytes x.name ∷ []) 0 < 2 ^ 1 = subst (λ (k : ℕ). v (string_bytes x.name ∷ []) 0 < 2 ^ k) one within.0 in
      rw e (ap₂ (λ (n : ℕ) (ns : List ℕ). n ∷ ns) (bit_back (v (string_bytes x.name ∷ []) 0) (omega arith)) (seen_are v xs within.1))
  | inr e ↦ rw e (seen_are v xs within.1)
]

pub seen_append : (ws vs ns ms : List ℕ) → length ns ≡ length ws → seen (ws ++ vs) (ns ++ ms) ≡ seen ws ns ++ seen vs ms
seen_append [] vs [] ms long = refl
seen_append [] vs (n ∷ ns) ms long = absurd (omega arith)
seen_append (w ∷ ws) vs [] ms long = absurd (omega arith)
seen_append (w ∷ ws) vs (n ∷ ns) ms long = elim (cases_Bool (nat_eq w 1)) [
  | inl e ↦ rw e (ap (λ (bs : List Bool). nat_eq n 1 ∷ bs) (seen_append ws vs ns ms (omega arith)))
  | inr e ↦ rw e (seen_append ws vs ns ms (omega arith))
]

-- two valuations that agree on names have the same values of them
pub values_agree : (v w : Values) (names : List (List ℕ)) → ((name : List ℕ) → IsIn name names → v (name ∷ []) 0 ≡ w (name ∷ []) 0) → values_of v names ≡ values_of w names
values_agree v w [] same = refl
values_agree v w (name ∷ names) same =
    ap₂ (λ (n : ℕ) (ns : List ℕ). n ∷ ns) (same name (inl refl)) (values_agree v w names (λ x among. same x (inr among)))

-- numbers of two parts
pub within_both : (ws vs ns ms : List ℕ) → AreWithin ws ns → AreWithin vs ms → AreWithin (ws ++ vs) (ns ++ ms)
within_both [] vs [] ms a b = b
within_both [] vs (n ∷ ns) ms a b = absurd a
within_both (w ∷ ws) vs [] ms a b = absurd a
within_both (w ∷ ws) vs (n ∷ ns) ms a b = (a.0, within_both ws vs ns ms a.1 b)

pub within_long : (ws ns : List ℕ) → AreWithin ws ns → length ns ≡ length ws
within_long [] [] a = refl
within_long [] (n ∷ ns) a = absurd a
within_long (w ∷ ws) [] a = absurd a
within_long (w ∷ ws) (n ∷ ns) a = ap suc (within_long ws ns a.1)

pub record Halves (ws vs ns : List ℕ) : Type 0 where
  pub front : List ℕ
  pub back : List ℕ
  pub both : front ++ back ≡ ns
  pub front_within : AreWithin ws front
  pub back_within : AreWithin vs back

pub halves : (ws vs ns : List ℕ) → AreWithin (ws ++ vs) ns → Halves ws vs ns
halves [] vs ns a = record { front = []; back = ns; both = refl; front_within = tt; back_within = a }
halves (w ∷ ws) vs [] a = absurd a
halves (w ∷ ws) vs (n ∷ ns) a =
    let more = halves ws vs ns a.1 in
    record { front = n ∷ more.front; back = more.back; both = ap (λ (l : List ℕ). n ∷ l) more.both; front_within = (a.0, more.front_within); back_within = more.back_within }

-- the number of one vector of one bit put in at its place, and left out there
pub within_put : (ws vs ns : List ℕ) (place value : ℕ) → slice_get ws place ≡ Some 1 → value ≤ 1 → AreWithin (but_one place ws vs) ns → AreWithin (ws ++ vs) (with_reset place value ns)
within_put [] vs ns place value at low a = absurd (let f : None ≡ Some 1 = at in cc)
within_put (w ∷ ws) vs ns zero value at low a =
    let one : w ≡ 1 = let f : Some w ≡ Some 1 = at in cc in
    let first : drop (0 + 1) (w ∷ ws) ≡ ws = let e : 0 + 1 ≡ 1 = omega arith in ap (λ (k : ℕ). drop k (w ∷ ws)) e in
    (subst (λ (k : ℕ). value < 2 ^ k) (sym one) (omega arith), subst (λ (l : List ℕ). AreWithin (l ++ vs) ns) first a)
within_put (w ∷ ws) vs [] (suc place) value at low a = absurd a
within_put (w ∷ ws) vs (n ∷ ns) (suc place) value at low a =
    let next : drop (suc place + 1) (w ∷ ws) ≡ drop (place + 1) ws = let e : suc place + 1 ≡ suc (place + 1) = omega arith in ap (λ (k : ℕ). drop k (w ∷ ws)) e in
    (a.0, within_put ws vs ns place value at low (subst (λ (l : List ℕ). AreWithin (take place ws ++ (l ++ vs)) ns) next a.1))

pub within_out : (ws vs ns : List ℕ) (place value : ℕ) → place < length ws → place ≤ length ns → AreWithin (ws ++ vs) (with_reset place value ns) → AreWithin (but_one place ws vs) ns
within_out [] vs ns place value inside long a = absurd (omega arith)
within_out (w ∷ ws) vs ns zero value inside long a =
    let first : ws ≡ drop (0 + 1) (w ∷ ws) = let e : 1 ≡ 0 + 1 = omega arith in ap (λ (k : ℕ). drop k (w ∷ ws)) e in
    subst (λ (l : List ℕ). AreWithin (l ++ vs) ns) first a.1
within_out (w ∷ ws) vs [] (suc place) value inside long a = absurd (omega arith)
within_out (w ∷ ws) vs (n ∷ ns) (suc place) value inside long a =
    let next : drop (place + 1) ws ≡ drop (suc place + 1) (w ∷ ws) = let e : suc (place + 1) ≡ suc place + 1 = omega arith in ap (λ (k : ℕ). drop k (w ∷ ws)) e in
    (a.0, subst (λ (l : List ℕ). AreWithin (take place ws ++ (l ++ vs)) ns) next (within_out ws vs ns place value (omega arith) (omega arith) a.1))

-- what isn't among some names is not taken from them
without_absent : (one : List ℕ) (names : List (List ℕ)) → (IsIn one names → ⊥) → without one names ≡ names
without_absent one [] absent = refl
without_absent one (name ∷ names) absent =
    let other : bytes_eq name one ≡ false = other_name name one (λ e. absent (inl (sym e))) in
    rw other (ap (λ (ns : List (List ℕ)). name ∷ ns) (without_absent one names (λ among. absent (inr among))))

-- the value of one name put in at its place, or taken out there
pub put_in : (v : Values) (names : List (List ℕ)) (others : List ℕ) (one : List ℕ) (place value : ℕ) (ns : List ℕ) → AreDistinct names → IsAt names place one →
    v (one ∷ []) 0 ≡ value → values_of v (without one names) ++ others ≡ ns → values_of v names ++ others ≡ with_reset place value ns
put_in v [] others one place value ns distinct at is free = absurd (let f : None ≡ Some one = at in cc)
put_in v (name ∷ names) others one zero value ns distinct at is free =
    let same : name ≡ one = let f : Some name ≡ Some one = at in cc in
    let absent : IsIn one names → ⊥ = subst (λ x. IsIn x names → ⊥) same distinct.0 in
    let front : bytes_eq name one ≡ true = same_name name one same in
    let left : without one (name ∷ names) ≡ names = rw front (without_absent one names absent) in
    let rest : values_of v names ++ others ≡ ns = ap (λ xs. values_of v xs ++ others) (sym left) ∙ free in
    ap₂ (λ (x : ℕ) (xs : List ℕ). x ∷ xs) (ap (λ x. v (x ∷ []) 0) same ∙ is) rest
put_in v (name ∷ names) others one (suc place) value [] distinct at is free =
    let other : bytes_eq name one ≡ false = other_name name one (λ e. distinct.0 (subst (λ x. IsIn x names) (sym e) (get_in names place one at))) in
    let left : without one (name ∷ names) ≡ name ∷ without one names = rw other refl in
    let f : v (name ∷ []) 0 ∷ (values_of v (without one names) ++ others) ≡ [] = ap (λ xs. values_of v xs ++ others) (sym left) ∙ free in
    cc
put_in v (name ∷ names) others one (suc place) value (n ∷ ns) distinct at is free =
    let other : bytes_eq name one ≡ false = other_name name one (λ e. distinct.0 (subst (λ x. IsIn x names) (sym e) (get_in names place one at))) in
    let left : without one (name ∷ names) ≡ name ∷ without one names = rw other refl in
    let f : v (name ∷ []) 0 ∷ (values_of v (without one names) ++ others) ≡ n ∷ ns = ap (λ xs. values_of v xs ++ others) (sym left) ∙ free in
    let head : v (name ∷ []) 0 ≡ n = cc in
    let tail : values_of v (without one names) ++ others ≡ ns = cc in
    ap₂ (λ (x : ℕ) (xs : List ℕ). x ∷ xs) head (put_in v names others one place value ns distinct.1 at is tail)

pub take_out : (v : Values) (names : List (List ℕ)) (others : List ℕ) (one : List ℕ) (place value : ℕ) (ns : List ℕ) → AreDistinct names → IsAt names place one →
    place ≤ length ns → values_of v names ++ others ≡ with_reset place value ns → (v (one ∷ []) 0 ≡ value) × (values_of v (without one names) ++ others ≡ ns)
take_out v [] others one place value ns distinct at within all = absurd (let f : None ≡ Some one = at in cc)
take_out v (name ∷ names) others one zero value ns distinct at within all =
    let same : name ≡ one = let f : Some name ≡ Some one = at in cc in
    let absent : IsIn one names → ⊥ = subst (λ x. IsIn x names → ⊥) same distinct.0 in
    let front : bytes_eq name one ≡ true = same_name name one same in
    let left : without one (name ∷ names) ≡ names = rw front (without_absent one names absent) in
    let f : v (name ∷ []) 0 ∷ (values_of v names ++ others) ≡ value ∷ ns = all in
    let head : v (name ∷ []) 0 ≡ value = cc in
    let tail : values_of v names ++ others ≡ ns = cc in
    (ap (λ x. v (x ∷ []) 0) (sym same) ∙ head, ap (λ xs. values_of v xs ++ others) left ∙ tail)
take_out v (name ∷ names) others one (suc place) value [] distinct at within all = absurd (omega arith)
take_out v (name ∷ names) others one (suc place) value (n ∷ ns) distinct at within all =
    let other : bytes_eq name one ≡ false = other_name name one (λ e. distinct.0 (subst (λ x. IsIn x names) (sym e) (get_in names place one at))) in
    let left : without one (name ∷ names) ≡ name ∷ without one names = rw other refl in
    let f : v (name ∷ []) 0 ∷ (values_of v names ++ others) ≡ n ∷ with_reset place value ns = all in
    let head : v (name ∷ []) 0 ≡ n = cc in
    let tail : values_of v names ++ others ≡ with_reset place value ns = cc in
    let later = take_out v names others one place value ns distinct.1 at (omega arith) tail in
    (later.0, ap (λ xs. values_of v xs ++ others) left ∙ ap₂ (λ (x : ℕ) (xs : List ℕ). x ∷ xs) head later.1)

-- a valuation in which names have given values
abbrev pub value_under : List (List ℕ) → List ℕ → List ℕ → ℕ
value_under [] ns name = 0
value_under (x ∷ xs) [] name = 0
value_under (x ∷ xs) (n ∷ ns) name = if bytes_eq x name then n else value_under xs ns name

abbrev pub valued : List (List ℕ) → List ℕ → Values
valued names ns path n = value_under names ns (name_of path)

pub read_back : (names : List (List ℕ)) (ns : List ℕ) → AreDistinct names → length ns ≡ length names → values_of (valued names ns) names ≡ ns
read_back [] [] distinct long = refl
read_back [] (n ∷ ns) distinct long = absurd (omega arith)
read_back (x ∷ xs) [] distinct long = absurd (omega arith)
read_back (x ∷ xs) (n ∷ ns) distinct long =
    let here : bytes_eq x x ≡ true = same_name x x refl in
    let head : valued (x ∷ xs) (n ∷ ns) (x ∷ []) 0 ≡ n = rw here refl in
    let tail : values_of (valued (x ∷ xs) (n ∷ ns)) xs ≡ values_of (valued xs ns) xs =
    values_agree (valued (x ∷ xs) (n ∷ ns)) (valued xs ns) xs
    (λ name among. let other : bytes_eq x name ≡ false = other_name x name (λ e. distinct.0 (subst (λ y. IsIn y xs) (sym e) among)) in rw other refl) in
    ap₂ (λ (y : ℕ) (ys : List ℕ). y ∷ ys) head (tail ∙ read_back xs ns distinct.1 (omega arith))

-- names but one are those before and behind its place
pub without_at : (names : List (List ℕ)) (place : ℕ) (one : List ℕ) → AreDistinct names → IsAt names place one → without one names ≡ take place names ++ drop (place + 1) names
without_at [] place one distinct at = absurd (let f : None ≡ Some one = at in cc)
without_at (name ∷ names) zero one distinct at =
    let same : name ≡ one = let f : Some name ≡ Some one = at in cc in
    let absent : IsIn one names → ⊥ = subst (λ x. IsIn x names → ⊥) same distinct.0 in
    let front : bytes_eq name one ≡ true = same_name name one same in
    let first : 0 + 1 ≡ 1 = omega arith in
    rw front (without_absent one names absent) ∙ ap (λ (n : ℕ). drop n (name ∷ names)) (sym first)
without_at (name ∷ names) (suc place) one distinct at =
    let other : bytes_eq name one ≡ false = other_name name one (λ e. distinct.0 (subst (λ x. IsIn x names) (sym e) (get_in names place one at))) in
    let next : suc place + 1 ≡ suc (place + 1) = omega arith in
    rw other (ap (λ (ns : List (List ℕ)). name ∷ ns) (without_at names place one distinct.1 at))
    ∙ ap (λ (n : ℕ). take (suc place) (name ∷ names) ++ drop n (name ∷ names)) (sym next)
