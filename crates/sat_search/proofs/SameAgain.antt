-- The addition that is always good.
use Rattle.std.proofs.Common.{arith, ◌≡◌, ◌<◌, ◌≤◌, ℕ, ℤ, pos, true, nat_lt, unsigned_abs, List, [], ◌∷◌, None, Some, refl, inl, inr}
use Rattle.std.specs.Ordering.{int_eq}
use Rattle.std.specs.List.{AllByRecursion}
use Rattle.std.proofs.lemmas.Bool.{cases_Bool}
use Rattle.std.proofs.lemmas.Bool.Decides.{Decides-int_eq, Decides-ltb}
use Rattle.std.proofs.lemmas.List.Elements.{recursion_from_All}
use Rattle.lrat_check.specs.Clauses.{AreKnown, clause_at}
use Rattle.lrat_check.specs.Hints.{Falses, no_falses, falsify, falsify_all, open_in}
use Rattle.lrat_check.specs.Good.{Checked, fault_of, unknown_var}

none_above : (vars : ℕ) (ls : List ℤ) → AllByRecursion (λ l. unsigned_abs l ≤ vars) ls → unknown_var vars ls ≡ None
none_above vars [] a = refl
none_above vars (l ∷ ls) a = elim (cases_Bool (nat_lt vars (unsigned_abs l))) [
  | inl t ↦ let h = (Decides-ltb vars (unsigned_abs l)).0 t in let k = a.0 in absurd (omega arith)
  | inr f ↦ rw f (none_above vars ls a.1)
]

one_more : (F : Falses) (l m : ℤ) → F m ≡ true → falsify F l m ≡ true
one_more F l m e = elim (cases_Bool (int_eq m l)) [
  | inl t ↦ rw t refl
  | inr f ↦ rw f e
]

itself : (F : Falses) (l : ℤ) → falsify F l l ≡ true
itself F l = let t : int_eq l l ≡ true = (Decides-int_eq l l).1 refl in rw t refl

stays : (F : Falses) (ls : List ℤ) (m : ℤ) → F m ≡ true → falsify_all F ls m ≡ true
stays F [] m e = e
stays F (l ∷ ls) m e = stays (falsify F l) ls m (one_more F l m e)

all_false : (F : Falses) (ls : List ℤ) → AllByRecursion (λ l. falsify_all F ls l ≡ true) ls
all_false F [] = tt
all_false F (l ∷ ls) = (stays (falsify F l) ls l (itself F l), all_false (falsify F l) ls)

none_open : (F : Falses) (ls : List ℤ) → AllByRecursion (λ l. F l ≡ true) ls → open_in F ls ≡ []
none_open F [] a = refl
none_open F (l ∷ ls) a = rw a.0 (none_open F ls a.1)

pub added_again : (base : Checked) (id own : ℕ) (clause : List ℤ) → base.last < id → AreKnown base.vars clause → clause_at base.force (pos own) ≡ Some clause
    → fault_of base id clause (pos own ∷ []) ≡ None
added_again base id own clause l k f =
    let t : nat_lt base.last id ≡ true = (Decides-ltb base.last id).1 l in
    let u : unknown_var base.vars clause ≡ None = none_above base.vars clause (recursion_from_All (λ l. unsigned_abs l ≤ base.vars) clause k) in
    let o : open_in (falsify_all no_falses clause) clause ≡ [] = none_open (falsify_all no_falses clause) clause (all_false no_falses clause) in
    rw (t, u, f, o) refl
