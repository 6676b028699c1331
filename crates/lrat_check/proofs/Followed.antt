-- Steps of the check of an addition.
use Rattle.std.proofs.Common.{◌≡◌, ℕ, zero, suc, ◌+◌, ◌<◌, ℤ, pos, List, [], ◌∷◌, drop, length, get_or, Option, None, Some, OnOk, nat_lt, unsigned_abs, refl, sym, ◌∙◌, ap, arith, subst, inl, inr}
use Rattle.std.specs.declared.result.Result.{Result}
use Rattle.std.specs.declared.result.Result.TheVariants.{Ok, Err}
use Rattle.std.proofs.lemmas.Bool.{cases_Bool}
use Rattle.std.proofs.lemmas.List.{drop_more}
use Rattle.std.proofs.lemmas.Bool.Decides.{Decides-ltb, not_from_Decides}
use Rattle.lrat_check.proofs.Hinted.{number_here}
use Rattle.lrat_check.specs.declared.hint.Hint.{Hint}
use Rattle.lrat_check.specs.declared.hint.Hint.TheVariants.{Forces}
use Rattle.lrat_check.specs.declared.line_error.LineError.{LineError}
use Rattle.lrat_check.specs.Clauses.{InForce, clause_at, without, without_all, AreKnown}
use Rattle.lrat_check.specs.Hints.{Falses, make_true, hint_of}
use Rattle.lrat_check.specs.Good.{after_clause, after_hint, hints_fault, unknown_var, Checks}

-- a hint that sets a literal true leaves the later ones
pub one_hint : (force : InForce) (F G : Falses) (R : Option LineError) (i : ℕ) (x : ℤ) (hints : List ℤ) (clause : List ℤ) (l m : ℤ) → i < length hints → x ≡ get_or hints i (pos 0)
    → Some clause ≡ clause_at force x → Forces l ≡ hint_of F clause → m ≡ l → G ≡ make_true F m → hints_fault force F (drop i hints) ≡ R
    → hints_fault force G (drop (i + 1) hints) ≡ R
one_hint force F G R i x hints clause l m h is e f s g inv =
    let rest = λ (o : ℤ). hints_fault force (make_true F o) (drop (i + 1) hints) in
    let one : hints_fault force F (x ∷ drop (i + 1) hints) ≡ hints_fault force (make_true F l) (drop (i + 1) hints) =
    ap (λ (o : Option (List ℤ)). after_hint F x o rest) (sym e) ∙ ap (λ (o : Hint). after_clause x o rest) (sym f) in
    ap (λ (H : Falses). hints_fault force H (drop (i + 1) hints)) (g ∙ ap (λ (o : ℤ). make_true F o) s) ∙ sym one
    ∙ subst (λ (hs : List ℤ). hints_fault force F hs ≡ R) (number_here hints i x h is) inv

-- a clause without an unknown variable is known
pub all_known : (vars : ℕ) (c : List ℤ) → unknown_var vars c ≡ None → AreKnown vars c
all_known vars [] e k d h = absurd (omega (arith, h))
all_known vars (l ∷ ls) e zero d h = elim (cases_Bool (nat_lt vars (unsigned_abs l))) [
  | inl t ↦ let q : Some (unsigned_abs l) ≡ None = rw t at e in absurd (cc)
  | inr f ↦ let q = not_from_Decides _ (Decides-ltb vars (unsigned_abs l)) f in omega (arith, q)
]
all_known vars (l ∷ ls) e (suc k) d h = elim (cases_Bool (nat_lt vars (unsigned_abs l))) [
  | inl t ↦ let q : Some (unsigned_abs l) ≡ None = rw t at e in absurd (cc)
  | inr f ↦ all_known vars ls (rw f at e) k d (omega (arith, h))
]

-- and a known clause has none
pub none_unknown : (vars : ℕ) (c : List ℤ) → AreKnown vars c → unknown_var vars c ≡ None
none_unknown vars [] k = refl
none_unknown vars (l ∷ ls) k = elim (cases_Bool (nat_lt vars (unsigned_abs l))) [
  | inl t ↦ let q : vars < unsigned_abs l = (Decides-ltb vars (unsigned_abs l)).0 t in let r = k 0 l (omega arith) in absurd (omega (arith, q, r))
  | inr f ↦ rw f (none_unknown vars ls (λ n d h. k (suc n) d (omega (arith, h))))
]

-- an id more is taken out
pub one_out : (F G R : InForce) (i : ℕ) (ids : List ℕ) → i < length ids → G ≡ without F (get_or ids i 0) → without_all F (drop i ids) ≡ R → without_all G (drop (i + 1) ids) ≡ R
one_out F G R i ids h g inv = ap (λ (H : InForce). without_all H (drop (i + 1) ids)) g ∙ subst (λ (xs : List ℕ). without_all F xs ≡ R) (drop_more ids i 0 h) inv

pub on_ok : {T E : Type 0} (r : Result T E) (P : Type 0) → P → OnOk r P
on_ok (Ok x) P p = p
on_ok (Err e) P p = tt

pub checks_none : {T : Type 0} (f : Option LineError) (x : T) → Checks f (Ok x) → f ≡ None
checks_none None x e = refl
checks_none (Some fault) x e = absurd (cc)
