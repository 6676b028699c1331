-- What follows by unit propagation is true.
use Rattle.std.proofs.Common.{◌≡◌, ℕ, zero, suc, ℤ, pos, negsuc, neg_ℤ, Bool, true, false, not, ◌||◌, List, [], ◌∷◌, Option, None, Some, nat_eq, nat_lt, refl, ap, subst, inl, inr}
use Rattle.std.specs.List.{AllByRecursion, list_all}
use Rattle.std.specs.Map.{lookup}
use Rattle.std.specs.Ordering.{int_eq}
use Rattle.std.proofs.lemmas.Bool.{cases_Bool}
use Rattle.std.proofs.lemmas.Bool.Decides.{Decides-int_eq}
use Rattle.lola_bits.proofs.All.{of_all, all_of, all_append, all_more}
use Rattle.lola_bits.proofs.Lists.{from_filter}
use Rattle.lola_bits.proofs.Options.{some_same, nothing}
use Rattle.lola_bits.proofs.Tests.{not_both}
use Rattle.lrat_check.specs.declared.hint.Hint.{Hint}
use Rattle.lrat_check.specs.declared.hint.Hint.TheVariants.{Conflict, Forces, Idle}
use Rattle.lrat_check.specs.declared.line_error.LineError.{LineError}
use Rattle.lrat_check.specs.declared.line_error.LineError.TheVariants as line
use Rattle.lrat_check.specs.declared.clause.Cnf.{Cnf}
use Rattle.lrat_check.specs.declared.line.Line.{Line}
use Rattle.lrat_check.specs.declared.line.Line.TheVariants.{Add, Delete}
use Rattle.lrat_check.specs.Clauses.{InForce, clause_at, without, without_all, numbered, clauses_of, has_empty}
use Rattle.lrat_check.specs.Hints.{Falses, no_falses, falsify, falsify_all, is_true, make_true, open_in, hint_with, hint_of}
use Rattle.lrat_check.specs.Good.{Checked, after_clause, after_hint, hints_fault, first_fault, fault_of}
use Rattle.lrat_check.specs.Derives.{checked_cnf, after, AreGood, added, Derives}
use Rattle.lrat_check.specs.Truth.{Assignment, literal_true, clause_true, Satisfies, Models}

-- every literal that is set false is false
abbrev pub AreFalse : Assignment → Falses → Type 0
AreFalse v F = (m : ℤ) → F m ≡ true → literal_true v m ≡ false

opposite_false : (v : Assignment) (l : ℤ) → literal_true v l ≡ true → literal_true v (neg_ℤ l) ≡ false
opposite_false v (pos zero) e = cc
opposite_false v (pos (suc n)) e = cc
opposite_false v (negsuc n) e = elim (cases_Bool (v (suc n))) [
  | inl t ↦ let k : not (v (suc n)) ≡ true = e in let q : false ≡ true = rw t at k in absurd (cc)
  | inr f ↦ f
]

falsified : (v : Assignment) (F : Falses) (l : ℤ) → AreFalse v F → literal_true v l ≡ false → AreFalse v (falsify F l)
falsified v F l are is m e = elim (cases_Bool (int_eq m l)) [
  | inl t ↦ rw ((Decides-int_eq m l).0 t) is
  | inr f ↦ are m (rw f at e)
]

all_falsified : (v : Assignment) (F : Falses) (c : List ℤ) → AreFalse v F → clause_true v c ≡ false → AreFalse v (falsify_all F c)
all_falsified v F [] are is = are
all_falsified v F (l ∷ ls) are is = elim (cases_Bool (literal_true v l)) [
  | inl t ↦ let q : true ≡ false = rw t at is in absurd (cc)
  | inr f ↦ all_falsified v (falsify F l) ls (falsified v F l are f) (rw f at is)
]

-- what an answer on a clause says of the clause's truth
abbrev Says : Assignment → Bool → Hint → Type 0
Says v b Conflict = b ≡ false
Says v b (Forces l) = b ≡ true → literal_true v l ≡ true
Says v b Idle = Unit {0}

-- a clause is true where its open literals are
open_true : (v : Assignment) (F : Falses) (c : List ℤ) → AreFalse v F → clause_true v (open_in F c) ≡ clause_true v c
open_true v F [] are = refl
open_true v F (l ∷ ls) are = elim (cases_Bool (F l)) [
  | inl t ↦ rw (t, are l t) (open_true v F ls are)
  | inr f ↦ rw f (ap (λ (b : Bool). literal_true v l || b) (open_true v F ls are))
]

same_false : (v : Assignment) (l : ℤ) (ls : List ℤ) → list_all (int_eq l) ls ≡ true → literal_true v l ≡ false → clause_true v ls ≡ false
same_false v l [] e f = refl
same_false v l (m ∷ ls) e f = elim (cases_Bool (int_eq l m)) [
  | inl t ↦ rw (← (Decides-int_eq l m).0 t, f) (same_false v l ls (rw t at e) f)
  | inr g ↦ let q : false ≡ true = rw g at e in absurd (cc)
]

says_with : (v : Assignment) (F : Falses) (ls : List ℤ) → Says v (clause_true v ls) (hint_with F ls)
says_with v F [] = refl
says_with v F (l ∷ ls) = elim (cases_Bool (list_all (int_eq l) ls)) [
  | inl same ↦ elim (cases_Bool (is_true F l)) [
    | inl t ↦ rw (same, t) tt
    | inr f ↦ rw (same, f) (λ e. elim (cases_Bool (literal_true v l)) [
      | inl t ↦ t
      | inr g ↦ let q : clause_true v ls ≡ true = rw g at e in not_both q (same_false v l ls same g)
    ])
  ]
  | inr other ↦ rw other tt
]

says : (v : Assignment) (F : Falses) → AreFalse v F → (c : List ℤ) → Says v (clause_true v c) (hint_of F c)
says v F are c = subst (λ (b : Bool). Says v b (hint_of F c)) (open_true v F c are) (says_with v F (open_in F c))

-- what all clauses in force have, the clause that is looked up has
pub looked_up : (P : List ℤ → Type 0) (force : InForce) (id : ℕ) (c : List ℤ) → AllByRecursion (λ e. P e.1) force → lookup (nat_eq id) force ≡ Some c → P c
looked_up P [] id c all e = nothing c e
looked_up P (x ∷ xs) id c all e = elim (cases_Bool (nat_eq id x.0)) [
  | inl t ↦ subst P (some_same x.1 c (rw t at e)) all.0
  | inr f ↦ looked_up P xs id c all.1 (rw f at e)
]

pub hinted : (P : List ℤ → Type 0) (force : InForce) (h : ℤ) (c : List ℤ) → AllByRecursion (λ e. P e.1) force → clause_at force h ≡ Some c → P c
hinted P force (pos id) c all e = looked_up P force id c all e
hinted P force (negsuc n) c all e = nothing c e

after_none : (v : Assignment) (c : List ℤ) (h : ℤ) (o : Hint) (rest : ℤ → Option LineError) → Says v (clause_true v c) o → clause_true v c ≡ true
    → ((l : ℤ) → literal_true v l ≡ true → rest l ≡ None → ⊥) → after_clause h o rest ≡ None → ⊥
after_none v c h Conflict rest s t on e = not_both t s
after_none v c h (Forces l) rest s t on e = on l (s t) e
after_none v c h Idle rest s t on e = cc

at_none : (v : Assignment) (F : Falses) → AreFalse v F → (h : ℤ) (c : Option (List ℤ)) (rest : ℤ → Option LineError) → ((d : List ℤ) → c ≡ Some d → clause_true v d ≡ true)
    → ((l : ℤ) → literal_true v l ≡ true → rest l ≡ None → ⊥) → after_hint F h c rest ≡ None → ⊥
at_none v F are h None rest t on e = cc
at_none v F are h (Some c) rest t on e = after_none v c h (hint_of F c) rest (says v F are c) (t c refl) on e

-- where the hints have no fault there is no such assignment
no_fault : (v : Assignment) (force : InForce) → Models v force → (hs : List ℤ) (F : Falses) → AreFalse v F → hints_fault force F hs ≡ None → ⊥
no_fault v force m [] F are e = cc
no_fault v force m (h ∷ hs) F are e = at_none v F are h (clause_at force h) (λ l. hints_fault force (make_true F l) hs)
    (λ d s. hinted (λ c. clause_true v c ≡ true) force h d m s) (λ l t n. no_fault v force m hs (make_true F l) (falsified v F (neg_ℤ l) are (opposite_false v l t)) n) e

later_none : (a b : Option LineError) → first_fault a b ≡ None → b ≡ None
later_none None b e = e
later_none (Some f) b e = absurd (cc)

none_false : (v : Assignment) → AreFalse v no_falses
none_false v m e = let q : false ≡ true = e in absurd (cc)

pub clause_follows : (base : Checked) (id : ℕ) (clause hints : List ℤ) → fault_of base id clause hints ≡ None → (v : Assignment) → Models v base.force → clause_true v clause ≡ true
clause_follows base id clause hints e v m = elim (cases_Bool (clause_true v clause)) [
  | inl t ↦ t
  | inr f ↦ elim (cases_Bool (nat_lt base.last id)) [
    | inl t ↦ absurd (no_fault v base.force m hints (falsify_all no_falses clause) (all_falsified v no_falses clause (none_false v) f)
        (later_none _ _ (later_none _ _ (rw t at e))))
    | inr g ↦ let q : Some line.IdNotRising ≡ None = rw g at e in absurd (cc)
  ]
]

-- what all clauses in force have, those that are left have
pub all_without : (P : ℕ × List ℤ → Type 0) (force : InForce) (id : ℕ) → AllByRecursion P force → AllByRecursion P (without force id)
all_without P force id all = all_of P (without force id) (λ x among. of_all P x force all (from_filter _ x force among).0)

pub all_without_all : (P : ℕ × List ℤ → Type 0) (ids : List ℕ) (force : InForce) → AllByRecursion P force → AllByRecursion P (without_all force ids)
all_without_all P [] force all = all
all_without_all P (id ∷ ids) force all = all_without_all P ids (without force id) (all_without P force id all)

numbered_models : (v : Assignment) (id : ℕ) (cs : List (List ℤ)) → Satisfies v cs → Models v (numbered id cs)
numbered_models v id [] s = tt
numbered_models v id (c ∷ cs) s = (s.0, numbered_models v (suc id) cs s.1)

-- no assignment makes the empty clause true
none_empty : (v : Assignment) (cs : List (List ℤ)) → Satisfies v cs → has_empty cs ≡ false
none_empty v [] s = refl
none_empty v ([] ∷ cs) s = let q : false ≡ true = s.0 in absurd (cc)
none_empty v ((l ∷ ls) ∷ cs) s = none_empty v cs s.1

added_true : (v : Assignment) (lines : List Line) (base : Checked) → AreGood base lines → Models v base.force → Satisfies v (added lines)
added_true v [] base good m = tt
added_true v (Add id clause hints ∷ lines) base good m =
    let t : clause_true v clause.literals ≡ true = clause_follows base id clause.literals hints good.0 v m in
    (t, added_true v lines (after base (Add id clause hints)) good.1 (all_more (λ c. clause_true v c.1 ≡ true) base.force (id, clause.literals) m t))
added_true v (Delete id ids ∷ lines) base good m = added_true v lines (after base (Delete id ids)) good.1 (all_without_all (λ c. clause_true v c.1 ≡ true) ids base.force m)

pub lines_follow : (cnf : Cnf) (lines : List Line) → AreGood (checked_cnf cnf) lines → (v : Assignment) → Satisfies v (clauses_of cnf.clauses) → Satisfies v (added lines)
lines_follow cnf lines good v s = added_true v lines (checked_cnf cnf) good (numbered_models v 1 (clauses_of cnf.clauses) s)

pub no_assignment : (cnf : Cnf) (lines : List Line) → Derives cnf lines → (v : Assignment) → Satisfies v (clauses_of cnf.clauses) → ⊥
no_assignment cnf lines d v s = not_both d.closes (none_empty v _ (all_append (λ c. clause_true v c ≡ true) (clauses_of cnf.clauses) (added lines) s (lines_follow cnf lines d.good v s)))
