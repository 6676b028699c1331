-- The numbers that digits spell.
use Rattle.std.proofs.Common.{◌≡◌, ℕ, ◌+◌, ◌*◌, ◌<◌, ◌≤◌, ◌^◌, List, [], ◌∷◌, length, drop, get_or, Some, None, inl, inr, refl, sym, ap, ◌∙◌, arith}
use Rattle.std.proofs.lemmas.Bool.{lt-ltb, le-ltb, cases_lt}
use Rattle.std.proofs.lemmas.List.{drop_more, drop_all}
use Rattle.lola_scan.specs.Bytes.{digit_value, number_behind}
use Rattle.lola_scan.specs.Front.{limited}

grows : (n base : ℕ) → 1 ≤ base → n ≤ base * n
grows n base b = grind arith

-- more digits spell no smaller number
pub number_grows : (base before : ℕ) (digits : List ℕ) → 1 ≤ base → before ≤ number_behind base before digits
number_grows base before [] b = omega arith
number_grows base before (d ∷ ds) b =
    let g : before ≤ base * before = grows before base b in
    omega (arith, number_grows base (base * before + digit_value d) ds b)

pub limited_small : (n : ℕ) → n < 2 ^ 128 → limited n ≡ Some n
limited_small n l = rw (lt-ltb n (2 ^ 128) l) refl

pub limited_large : (n : ℕ) → 2 ^ 128 ≤ n → limited n ≡ None
limited_large n l = rw (le-ltb n (2 ^ 128) l) refl

pub limited_none : (n : ℕ) → limited n ≡ None → 2 ^ 128 ≤ n
limited_none n e = elim (cases_lt n (2 ^ 128)) [
  | inl l ↦ (let f = limited_small n l in absurd (cc))
  | inr l ↦ l
]

-- and one that isn't is itself
pub limited_some : (n m : ℕ) → limited n ≡ Some m → (n ≡ m) × (n < 2 ^ 128)
limited_some n m e = elim (cases_lt n (2 ^ 128)) [
  | inl l ↦ (let f = limited_small n l in (cc, l))
  | inr l ↦ (let f = limited_large n l in absurd (cc))
]

-- a number that is too large stays so
pub stays_large : (base value : ℕ) (digits : List ℕ) (i n : ℕ) → 1 ≤ base → i < length digits → number_behind base value (drop i digits) ≡ n →
    limited (base * value + digit_value (get_or digits i 0)) ≡ None → limited n ≡ None
stays_large base value digits i n b l e none =
    let h = limited_none (base * value + digit_value (get_or digits i 0)) none in
    let f : drop i digits ≡ get_or digits i 0 ∷ drop (i + 1) digits = drop_more digits i 0 l in
    let g = number_grows base (base * value + digit_value (get_or digits i 0)) (drop (i + 1) digits) b in
    limited_large n (omega (arith, g, ap (number_behind base value) f))

-- at the end the number is the one that is spelled
pub ends_small : (base value : ℕ) (digits : List ℕ) (i n : ℕ) → length digits ≤ i → number_behind base value (drop i digits) ≡ n → value < 2 ^ 128 → Some value ≡ limited n
ends_small base value digits i n l e s =
    let f : drop i digits ≡ [] = drop_all i digits l in
    let g : n ≡ value = sym e ∙ ap (number_behind base value) f in
    rw g (sym (limited_small value s))
