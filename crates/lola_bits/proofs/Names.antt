-- Names that are the same, names that aren't, and names among some.
use Rattle.std.proofs.Common.{◌≡◌, ◌≢◌, ◌⊎◌, ℕ, true, false, List, [], ◌∷◌, sym, ◌∙◌, inl, inr}
use Rattle.std.specs.Prelude.{bytes_eq}
use Rattle.std.proofs.lemmas.Bool.{cases_Bool, false≢true, false_from_ne_true, or_cases, or_left, or_right}
use Rattle.std.proofs.lemmas.Slice.Eq.{bytes_eq-Decides}
use Rattle.lola_bits.specs.Lists.{IsIn}
use Rattle.lola_bits.specs.Names.{is_among}

pub same_name : (x y : List ℕ) → x ≡ y → bytes_eq x y ≡ true
same_name x y same = (bytes_eq-Decides x y).1 same

pub is_same_name : (x y : List ℕ) → bytes_eq x y ≡ true → x ≡ y
is_same_name x y same = (bytes_eq-Decides x y).0 same

pub other_name : (x y : List ℕ) → x ≢ y → bytes_eq x y ≡ false
other_name x y other = false_from_ne_true (bytes_eq x y) (λ same. other (is_same_name x y same))

pub is_other_name : (x y : List ℕ) → bytes_eq x y ≡ false → x ≢ y
is_other_name x y other same = false≢true (sym other ∙ same_name x y same)

pub same_or_not : (x y : List ℕ) → (x ≡ y) ⊎ (x ≢ y)
same_or_not x y = elim (cases_Bool (bytes_eq x y)) [ inl same ↦ inl (is_same_name x y same) | inr other ↦ inr (is_other_name x y other) ]

-- the test for a name among some
pub among : (name : List ℕ) (names : List (List ℕ)) → IsIn name names → is_among names name ≡ true
among name [] is = absurd is
among name (x ∷ xs) (inl same) = or_left (bytes_eq x name) (is_among xs name) (same_name x name (sym same))
among name (x ∷ xs) (inr later) = or_right (bytes_eq x name) (is_among xs name) (among name xs later)

pub is_in : (name : List ℕ) (names : List (List ℕ)) → is_among names name ≡ true → IsIn name names
is_in name [] is = absurd (false≢true is)
is_in name (x ∷ xs) is = elim (or_cases (bytes_eq x name) (is_among xs name) is) [ inl same ↦ inl (sym (is_same_name x name same)) | inr later ↦ inr (is_in name xs later) ]

pub not_among : (name : List ℕ) (names : List (List ℕ)) → (IsIn name names → ⊥) → is_among names name ≡ false
not_among name names other = false_from_ne_true (is_among names name) (λ is. other (is_in name names is))

pub is_not_in : (name : List ℕ) (names : List (List ℕ)) → is_among names name ≡ false → IsIn name names → ⊥
is_not_in name names other is = false≢true (sym other ∙ among name names is)
