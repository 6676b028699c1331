-- Lists of numbers that are halved, read and written at a place, and whether bits are a place.
use Rattle.std.proofs.Common.{◌≡◌, ℕ, zero, suc, ◌+◌, ◌-◌, ◌*◌, ◌/◌, ◌%◌, ◌^◌, ◌<◌, ◌≤◌, Bool, true, false, cond, not, ◌&&◌, List, [], ◌∷◌, length, nat_eq, refl, sym, ap, ap₂, ◌∙◌, inl, inr, arith}
use Rattle.std.proofs.lemmas.Bool.{cases_Bool, cond-true, cond-false, ne_eqb}
use Rattle.std.proofs.lemmas.Bool.Decides.{nat_tests}
use Rattle.lola_bits.specs.Number.{number}
use Rattle.lola_bits.specs.BitLists.{number_of}
use Rattle.lola_bits.proofs.BitLists.{pow_more}
use Rattle.lola_alg.specs.Means.{number_in, with_number}

-- each second number, by a bit
abbrev pub halve_of : Bool → List ℕ → List ℕ
halve_of b [] = []
halve_of b (x ∷ []) = []
halve_of b (x ∷ y ∷ more) = cond b y x ∷ halve_of b more

pub halve_long : (b : Bool) (h : ℕ) (ns : List ℕ) → length ns ≡ 2 * h → length (halve_of b ns) ≡ h
halve_long b h [] e = omega arith
halve_long b h (x ∷ []) e = absurd (omega arith)
halve_long b zero (x ∷ y ∷ more) e = absurd (omega arith)
halve_long b (suc h) (x ∷ y ∷ more) e = ap suc (halve_long b h more (omega arith))

pub halve_number : (b : Bool) (h : ℕ) (ns : List ℕ) (k : ℕ) → length ns ≡ 2 * h → number_in (halve_of b ns) k ≡ number_in ns (number b + 2 * k)
halve_number b h [] k e = refl
halve_number b h (x ∷ []) k e = absurd (omega arith)
halve_number b zero (x ∷ y ∷ more) k e = absurd (omega arith)
halve_number true (suc h) (x ∷ y ∷ more) zero e = refl
halve_number false (suc h) (x ∷ y ∷ more) zero e = refl
halve_number b (suc h) (x ∷ y ∷ more) (suc k) e =
    let rest = halve_number b h more k (omega arith) in
    let back : suc k - 1 ≡ k = omega arith in
    let two : number b + 2 * suc k - 1 - 1 ≡ number b + 2 * k = omega arith in
    let first : nat_eq (number b + 2 * suc k) 0 ≡ false = grind (arith, nat_tests) in
    let second : nat_eq (number b + 2 * suc k - 1) 0 ≡ false = grind (arith, nat_tests) in
    cond-false (nat_eq (suc k) 0) (cond b y x) (number_in (halve_of b more) (suc k - 1)) (ne_eqb (suc k) 0 (λ z. omega arith)) ∙ (ap (number_in (halve_of b more)) back ∙ (rest ∙ sym (cond-false (nat_eq (number b + 2 * suc k) 0) x (cond (nat_eq (number b + 2 * suc k - 1) 0) y (number_in more (number b + 2 * suc k - 1 - 1))) first
    ∙ (cond-false (nat_eq (number b + 2 * suc k - 1) 0) y (number_in more (number b + 2 * suc k - 1 - 1)) second ∙ ap (number_in more) two))))

-- whether bits are those of a number, from what is so far
abbrev pub place_of : List Bool → ℕ → Bool → Bool
place_of [] k so = so
place_of (b ∷ bs) k so = place_of bs (k / 2) (cond (nat_eq (k % 2) 1) (so && b) (so && not b))

pub place_number : (bs : List Bool) (k : ℕ) (so : Bool) → k < 2 ^ length bs → place_of bs k so ≡ (so && nat_eq (number_of bs) k)
place_number [] zero true l = refl
place_number [] zero false l = refl
place_number [] (suc k) so l = absurd (omega arith)
place_number (b ∷ bs) k so l =
    let p = pow_more (length bs) in
    let below : k / 2 < 2 ^ length bs = omega arith in
    place_number bs (k / 2) (cond (nat_eq (k % 2) 1) (so && b) (so && not b)) below ∙ step b so (number_of bs) k
  where
    step : (t s : Bool) (y i : ℕ) → (cond (nat_eq (i % 2) 1) (s && t) (s && not t) && nat_eq y (i / 2)) ≡ (s && nat_eq (number t + 2 * y) i)
    step true true y i = grind (arith, nat_tests)
    step false true y i = grind (arith, nat_tests)
    step true false y i = grind (arith, nat_tests)
    step false false y i = grind (arith, nat_tests)

-- the numbers from number k on, where the one at a place becomes another
abbrev pub written : ℕ → ℕ → ℕ → List ℕ → List ℕ
written place y k [] = []
written place y k (x ∷ xs) = cond (nat_eq place k) y x ∷ written place y (k + 1) xs

written_past : (place y k : ℕ) (xs : List ℕ) → place < k → written place y k xs ≡ xs
written_past place y k [] l = refl
written_past place y k (x ∷ xs) l =
    ap₂ (λ z zs. z ∷ zs) (cond-false (nat_eq place k) y x (let e : nat_eq place k ≡ false = grind (arith, nat_tests) in e)) (written_past place y (k + 1) xs (omega arith))

written_from : (place y k : ℕ) (xs : List ℕ) → k ≤ place → written place y k xs ≡ with_number xs (place - k) y
written_from place y k [] l = refl
written_from place y k (x ∷ xs) l = elim (cases_Bool (nat_eq place k)) [
  | inl here ↦ (
      let none : nat_eq (place - k) 0 ≡ true = grind (arith, nat_tests) in
      let past : place < k + 1 = grind (arith, nat_tests) in
      ap₂ (λ z zs. z ∷ zs) (cond-true (nat_eq place k) y x here) (written_past place y (k + 1) xs past)
      ∙ sym (cond-true (nat_eq (place - k) 0) (y ∷ xs) (x ∷ with_number xs (place - k - 1) y) none))
  | inr other ↦ (
      let some : nat_eq (place - k) 0 ≡ false = grind (arith, nat_tests) in
      let more : k + 1 ≤ place = grind (arith, nat_tests) in
      let back : place - (k + 1) ≡ place - k - 1 = omega arith in
      ap₂ (λ z zs. z ∷ zs) (cond-false (nat_eq place k) y x other) (written_from place y (k + 1) xs more ∙ ap (λ i. with_number xs i y) back)
      ∙ sym (cond-false (nat_eq (place - k) 0) (y ∷ xs) (x ∷ with_number xs (place - k - 1) y) some))
]

pub written_is : (place y : ℕ) (xs : List ℕ) → written place y 0 xs ≡ with_number xs place y
written_is place y xs = let e : place - 0 ≡ place = omega arith in written_from place y 0 xs (omega arith) ∙ ap (λ i. with_number xs i y) e

pub with_long : (xs : List ℕ) (place y : ℕ) → length (with_number xs place y) ≡ length xs
with_long [] place y = refl
with_long (x ∷ xs) place y = elim (cases_Bool (nat_eq place 0)) [
  | inl here ↦ ap length (cond-true (nat_eq place 0) (y ∷ xs) (x ∷ with_number xs (place - 1) y) here)
  | inr other ↦ (ap length (cond-false (nat_eq place 0) (y ∷ xs) (x ∷ with_number xs (place - 1) y) other) ∙ ap suc (with_long xs (place - 1) y))
]
