-- Names without the `_` at their end.
use Rattle.std.proofs.Common.{◌≡◌, ◌≢◌, ℕ, Bool, true, false, cond, List, [], ◌∷◌, ◌++◌, nat_eq, refl, ap, arith}
use Rattle.std.proofs.lemmas.Bool.Decides.{nat_tests}
use Rattle.veri_read.specs.Made.{without_mark}

pub mark_taken : (front : List ℕ) → without_mark (front ++ 95 ∷ []) ≡ front
mark_taken [] = refl
mark_taken (b ∷ []) = refl
mark_taken (b ∷ c ∷ front) = ap (λ (l : List ℕ). b ∷ l) (mark_taken (c ∷ front))

pub mark_missing : (name : List ℕ) → ((front : List ℕ) → name ≢ front ++ 95 ∷ []) → without_mark name ≡ name
mark_missing [] none = refl
mark_missing (b ∷ []) none = by (nat_eq b 95) refl
  where
    by : (t : Bool) → nat_eq b 95 ≡ t → cond t [] (b ∷ []) ≡ b ∷ []
    by true is = let e : b ≡ 95 = grind (arith, nat_tests) in absurd (none [] (ap (λ n. n ∷ []) e))
    by false is = refl
mark_missing (b ∷ c ∷ name) none = ap (λ (l : List ℕ). b ∷ l) (mark_missing (c ∷ name) (λ front is. none (b ∷ front) (ap (λ (l : List ℕ). b ∷ l) is)))
