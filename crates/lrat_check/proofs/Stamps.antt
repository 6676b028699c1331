-- Marks by stamps are a set of false literals.
use Rattle.std.proofs.Common.{◌≡◌, ◌≢◌, ℕ, zero, suc, ◌+◌, ◌*◌, ◌<◌, ℤ, pos, negsuc, nat_abs, true, false, List, ◌∷◌, drop, length, get_or, Option, None, Some, IfSome, nat_eq, slice_set, refl, sym, ◌∙◌, ap, arith, inl, inr, w32, SFits, to_z, of_z, subst, replicate}
use Rattle.std.specs.Ordering.{int_eq}
use Rattle.std.proofs.lemmas.Int.{to_z-of_z}
use Rattle.std.proofs.lemmas.Bool.{cases_Bool}
use Rattle.std.proofs.lemmas.Bool.Decides.{Decides-int_eq, Decides-eqb, not_from_Decides}
use Rattle.std.proofs.lemmas.List.{get_or-set_same, get_or-set_other}
use Rattle.lrat_check.specs.declared.hint.Hint.TheVariants.{Idle}
use Rattle.lrat_check.specs.Hints.{Falses, no_falses, falsify, falsify_all, hint_of}
use Rattle.lrat_check.specs.Marks.{place, marked, IsLatest}
use Rattle.lrat_check.proofs.Hinted.{hint_from, number_here, passes_false, takes_first, passes_same, stops_at_other}

one_place : (m l : ℤ) → place m ≡ place l → m ≡ l
one_place (pos m) (pos l) e = ap pos (omega arith)
one_place (pos m) (negsuc l) e = absurd (omega arith)
one_place (negsuc m) (pos l) e = absurd (omega arith)
one_place (negsuc m) (negsuc l) e = ap negsuc (omega arith)

-- a stamp at a literal's place sets it false
marked_at : (stamps : List ℕ) (stamp : ℕ) (l m : ℤ) → place l < length stamps
    → marked (slice_set stamps (place l) stamp) stamp m ≡ falsify (marked stamps stamp) l m
marked_at stamps stamp l m h = elim (cases_Bool (int_eq m l)) [
  | inl t ↦ let e : m ≡ l = (Decides-int_eq m l).0 t in
      rw t (rw e (rw (get_or-set_same stamps (place l) stamp 0 h) ((Decides-eqb stamp stamp).1 refl)))
  | inr f ↦ let e : place m ≢ place l = λ p. not_from_Decides (int_eq m l) (Decides-int_eq m l) f (one_place m l p) in
      rw f (rw (get_or-set_other stamps (place l) (place m) stamp 0 e) refl)
]

pub marked_set : (stamps : List ℕ) (stamp p : ℕ) (l : ℤ) → p ≡ place l → p < length stamps
    → marked (slice_set stamps p stamp) stamp ≡ falsify (marked stamps stamp) l
marked_set stamps stamp p l e h = rw e (let k : place l < length stamps = rw (← e) h in λ i m. marked_at stamps stamp l m k i)

-- one more literal of a clause is set false
pub false_step : (stamps : List ℕ) (stamp i p : ℕ) (x : ℤ) (clause : List ℤ) (R : Falses) → i < length clause → x ≡ get_or clause i (pos 0)
    → p ≡ place x → p < length stamps → falsify_all (marked stamps stamp) (drop i clause) ≡ R
    → falsify_all (marked (slice_set stamps p stamp) stamp) (drop (i + 1) clause) ≡ R
false_step stamps stamp i p x clause R h is e b inv = rw (marked_set stamps stamp p x e b) (rw (number_here clause i x h is) at inv)

pub marked_true : (stamps : List ℕ) (stamp p : ℕ) (x : ℤ) → p ≡ place x → get_or stamps p 0 ≡ stamp → marked stamps stamp x ≡ true
marked_true stamps stamp p x e is = rw (← e) ((Decides-eqb _ _).1 is)

pub marked_false : (stamps : List ℕ) (stamp p : ℕ) (x : ℤ) → p ≡ place x → get_or stamps p 0 ≢ stamp → marked stamps stamp x ≡ false
marked_false stamps stamp p x e is = rw (← e) (elim (cases_Bool (nat_eq (get_or stamps p 0) stamp)) [
  | inl t ↦ absurd (is ((Decides-eqb _ _).0 t))
  | inr f ↦ f
])

-- what is known of the open literal in the midst of a clause
pub record Looked (stamps : List ℕ) (stamp : ℕ) (first : Option ℤ) (i : ℕ) (clause : List ℤ) : Type 0 where
  pub so_far : hint_from (marked stamps stamp) first (drop i clause) ≡ hint_of (marked stamps stamp) clause
  pub fits : IfSome first (λ o. SFits w32 o)
  pub within : IfSome first (λ o. 2 * nat_abs o + 1 < length stamps)

-- the hint from here on, with the literal that stands here
here : (stamps : List ℕ) (stamp : ℕ) (first : Option ℤ) (i : ℕ) (clause : List ℤ) (x : ℤ) → i < length clause → x ≡ get_or clause i (pos 0) → Looked stamps stamp first i clause
    → hint_from (marked stamps stamp) first (x ∷ drop (i + 1) clause) ≡ hint_of (marked stamps stamp) clause
here stamps stamp first i clause x h is k =
    subst (λ (ls : List ℤ). hint_from (marked stamps stamp) first ls ≡ hint_of (marked stamps stamp) clause) (number_here clause i x h is) k.so_far

pub looked_false : (stamps : List ℕ) (stamp p : ℕ) (first : Option ℤ) (i : ℕ) (clause : List ℤ) (x : ℤ) → i < length clause → x ≡ get_or clause i (pos 0) → p ≡ place x
    → get_or stamps p 0 ≡ stamp → Looked stamps stamp first i clause → Looked stamps stamp first (i + 1) clause
looked_false stamps stamp p first i clause x h is e m k = record {
  so_far = sym (passes_false (marked stamps stamp) first x (drop (i + 1) clause) (marked_true stamps stamp p x e m)) ∙ here stamps stamp first i clause x h is k;
  fits = k.fits;
  within = k.within;
}

pub looked_first : (stamps : List ℕ) (stamp p : ℕ) (i : ℕ) (clause : List ℤ) (x : ℤ) → i < length clause → x ≡ get_or clause i (pos 0) → p ≡ place x
    → get_or stamps p 0 ≢ stamp → SFits w32 x → 2 * nat_abs x + 1 < length stamps → Looked stamps stamp None i clause → Looked stamps stamp (Some x) (i + 1) clause
looked_first stamps stamp p i clause x h is e m f b k = record {
  so_far = sym (takes_first (marked stamps stamp) x (drop (i + 1) clause) (marked_false stamps stamp p x e m)) ∙ here stamps stamp None i clause x h is k;
  fits = f;
  within = b;
}

pub looked_same : (stamps : List ℕ) (stamp p : ℕ) (o : ℤ) (i : ℕ) (clause : List ℤ) (x : ℤ) → i < length clause → x ≡ get_or clause i (pos 0) → p ≡ place x
    → get_or stamps p 0 ≢ stamp → x ≡ o → Looked stamps stamp (Some o) i clause → Looked stamps stamp (Some o) (i + 1) clause
looked_same stamps stamp p o i clause x h is e m s k = record {
  so_far = sym (passes_same (marked stamps stamp) o x (drop (i + 1) clause) (marked_false stamps stamp p x e m) s) ∙ here stamps stamp (Some o) i clause x h is k;
  fits = k.fits;
  within = k.within;
}

pub looked_other : (stamps : List ℕ) (stamp p : ℕ) (o : ℤ) (i : ℕ) (clause : List ℤ) (x : ℤ) → i < length clause → x ≡ get_or clause i (pos 0) → p ≡ place x
    → get_or stamps p 0 ≢ stamp → x ≢ o → Looked stamps stamp (Some o) i clause → Idle ≡ hint_of (marked stamps stamp) clause
looked_other stamps stamp p o i clause x h is e m s k =
    sym (stops_at_other (marked stamps stamp) o x (drop (i + 1) clause) (marked_false stamps stamp p x e m) s) ∙ here stamps stamp (Some o) i clause x h is k

-- numbers of the same bits are the same
pub same_bits : (x y : ℤ) → SFits w32 x → SFits w32 y → of_z w32 x ≡ of_z w32 y → x ≡ y
same_bits x y f g e = sym (to_z-of_z w32 x f) ∙ ap (to_z w32) e ∙ to_z-of_z w32 y g

pub latest_set : (stamps : List ℕ) (stamp p : ℕ) → p < length stamps → IsLatest stamps stamp → IsLatest (slice_set stamps p stamp) stamp
latest_set stamps stamp p h b = record {
  at = λ k. elim (cases_Bool (nat_eq k p)) [
    | inl t ↦ rw ((Decides-eqb k p).0 t, get_or-set_same stamps p stamp 0 h) (omega arith)
    | inr f ↦ let e : k ≢ p = not_from_Decides (nat_eq k p) (Decides-eqb k p) f in rw (get_or-set_other stamps p k stamp 0 e) (b.at k)
  ];
}

unmarked : (stamps : List ℕ) (stamp : ℕ) → IsLatest stamps stamp → (l : ℤ) → marked stamps (stamp + 1) l ≡ false
unmarked stamps stamp b l = elim (cases_Bool (nat_eq (get_or stamps (place l) 0) (stamp + 1))) [
  | inl t ↦ let e : get_or stamps (place l) 0 ≡ stamp + 1 = (Decides-eqb _ _).0 t in absurd (omega (arith, e, b.at (place l)))
  | inr f ↦ f
]

pub none_marked : (stamps : List ℕ) (stamp : ℕ) → IsLatest stamps stamp → marked stamps (stamp + 1) ≡ no_falses
none_marked stamps stamp b = λ i l. unmarked stamps stamp b l i

pub latest_next : (stamps : List ℕ) (stamp : ℕ) → IsLatest stamps stamp → IsLatest stamps (stamp + 1)
latest_next stamps stamp b = record { at = λ k. omega (arith, b.at k) }

zero_at : (n k : ℕ) → get_or {A = ℕ} (replicate n 0) k 0 ≡ zero
zero_at zero k = refl
zero_at (suc n) zero = refl
zero_at (suc n) (suc k) = zero_at n k

pub latest_zero : (stamps : List ℕ) (n : ℕ) → stamps ≡ replicate n 0 → IsLatest stamps 0
latest_zero stamps n e = record { at = λ k. rw (e, zero_at n k) (omega arith) }
