-- What the tests of ranges say.
use Rattle.std.proofs.Common.{arith, ◌≡◌, ◌≢◌, ◌<◌, ◌≤◌, ℕ, ℤ, Bool, true, false, not, ◌&&◌, nat_eq, nat_lt, unsigned_abs, List, [], ◌∷◌, refl, inl, inr}
use Rattle.std.specs.List.{AllByRecursion, list_all}
use Rattle.std.proofs.lemmas.Bool.{cases_Bool}
use Rattle.std.proofs.lemmas.Bool.Decides.{Decides-ltb, Decides-eqb}
use Rattle.lola_bits.proofs.Tests.{not_both}
use Rattle.sat_search.specs.Ranges.{IsId, IsLiteral, IsHint, is_literal, is_hint, is_later}

-- where a test says a property, it says it of all
pub all_say : {X : Type 0} (test : X → Bool) (P : X → Type 0) → ((x : X) → test x ≡ true → P x) → (xs : List X) → list_all test xs ≡ true → AllByRecursion P xs
all_say test P says [] e = tt
all_say test P says (x ∷ xs) e = elim (cases_Bool (test x)) [
  | inl t ↦ (says x t, all_say test P says xs (rw t at e))
  | inr f ↦ let q : false ≡ true = rw f at e in absurd (cc)
]

pub all_pass : {X : Type 0} (test : X → Bool) (P : X → Type 0) → ((x : X) → P x → test x ≡ true) → (xs : List X) → AllByRecursion P xs → list_all test xs ≡ true
all_pass test P pass [] a = refl
all_pass test P pass (x ∷ xs) a = rw (pass x a.0) (all_pass test P pass xs a.1)

-- both at once: not 0, and below a bound
between : (n bound : ℕ) → (not (nat_eq n 0) && nat_lt n bound) ≡ true → (1 ≤ n) × (n < bound)
between n bound e = elim (cases_Bool (nat_eq n 0)) [
  | inl t ↦ let q : false ≡ true = rw t at e in absurd (cc)
  | inr f ↦ (
    let no : n ≢ 0 = (λ z. not_both ((Decides-eqb n 0).1 z) f) in omega arith,
    (Decides-ltb n bound).0 (rw f at e),
  )
]

within : (n bound : ℕ) → 1 ≤ n → n < bound → (not (nat_eq n 0) && nat_lt n bound) ≡ true
within n bound low high = elim (cases_Bool (nat_eq n 0)) [
  | inl t ↦ let q : n ≡ 0 = (Decides-eqb n 0).0 t in absurd (omega arith)
  | inr f ↦ rw (f, (Decides-ltb n bound).1 high) refl
]

pub literal_says : (l : ℤ) → is_literal l ≡ true → IsLiteral l
literal_says l e = let b = between (unsigned_abs l) 2147483648 e in record { positive = b.0; below = b.1 }

pub literal_passes : (l : ℤ) → IsLiteral l → is_literal l ≡ true
literal_passes l r = within (unsigned_abs l) 2147483648 r.positive r.below

pub hint_says : (h : ℤ) → is_hint h ≡ true → IsHint h
hint_says h e = let b = between (unsigned_abs h) 9223372036854775808 e in record { positive = b.0; below = b.1 }

pub hint_passes : (h : ℤ) → IsHint h → is_hint h ≡ true
hint_passes h r = within (unsigned_abs h) 9223372036854775808 r.positive r.below

pub later_id : (clauses id : ℕ) → is_later clauses id ≡ true → IsId id
later_id clauses id e = elim (cases_Bool (nat_lt clauses id)) [
  | inl t ↦ let l = (Decides-ltb clauses id).0 t in record { positive = omega arith; below = (Decides-ltb id 9223372036854775808).0 (rw t at e) }
  | inr f ↦ let q : false ≡ true = rw f at e in absurd (cc)
]

pub later_than : (clauses id : ℕ) → is_later clauses id ≡ true → clauses < id
later_than clauses id e = elim (cases_Bool (nat_lt clauses id)) [
  | inl t ↦ (Decides-ltb clauses id).0 t
  | inr f ↦ let q : false ≡ true = rw f at e in absurd (cc)
]
