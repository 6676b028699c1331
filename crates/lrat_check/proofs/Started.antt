-- The clauses of a Cnf are put in force.
use Rattle.std.proofs.Common.{◌≡◌, ℕ, suc, ◌+◌, ◌<◌, ℤ, Bool, true, false, ◌||◌, List, [], ◌∷◌, ◌++◌, drop, length, get_or, nat_eq, refl, sym, ◌∙◌, ap, arith, subst, append_assoc, append-nil}
use Rattle.lola_bits.proofs.All.{all_more}
use Rattle.lola_bits.proofs.Places.{drop_item}
use Rattle.lrat_check.specs.declared.clause.Clause.{Clause}
use Rattle.lrat_check.specs.Clauses.{InForce, AreKnown, AreAllKnown, numbered, clauses_of, is_empty, has_empty}
use Rattle.lrat_check.specs.Whole.{ForceIsKnown}
use Rattle.lrat_check.proofs.KeysFound.{other_id}

-- what is known once the first i clauses are in force
pub record Started (vars : ℕ) (clauses : List Clause) (i id : ℕ) (closed : Bool) (force : InForce) (last : ℕ) : Type 0 where
  pub count : id ≡ i
  pub latest : last ≡ i
  pub numbers : force ++ numbered (i + 1) (clauses_of (drop i clauses)) ≡ numbered 1 (clauses_of clauses)
  pub known : ForceIsKnown vars force
  pub left : AreAllKnown vars (drop i clauses)
  pub empty : (closed || has_empty (clauses_of (drop i clauses))) ≡ has_empty (clauses_of clauses)

pub started_first : (vars : ℕ) (clauses : List Clause) (force : InForce) (last : ℕ) → AreAllKnown vars clauses → force ≡ [] → last ≡ 0
    → Started vars clauses 0 0 false force last
started_first vars clauses force last k e l = record {
  count = refl;
  latest = l;
  numbers = ap (λ (f : InForce). f ++ numbered 1 (clauses_of clauses)) e;
  known = subst (λ (f : InForce). ForceIsKnown vars f) (sym e) tt;
  left = k;
  empty = refl;
}

one_more : (a b c : Bool) → ((a || b) || c) ≡ (a || (b || c))
one_more true b c = refl
one_more false b c = refl

pub started_next : (vars : ℕ) (clauses : List Clause) (i id : ℕ) (closed closed2 : Bool) (force force2 : InForce) (last : ℕ) (clause : Clause) (literals : List ℤ) → i < length clauses
    → clause ≡ get_or clauses i clause → literals ≡ clause.literals → force2 ≡ force ++ (id + 1, literals) ∷ [] → closed2 ≡ (closed || is_empty literals)
    → Started vars clauses i id closed force last → Started vars clauses (i + 1) (id + 1) closed2 force2 (id + 1)
started_next vars clauses i id closed closed2 force force2 last clause literals h is l e f s =
    let d = drop_item clauses i clause h is in
    let left = subst (λ (cs : List Clause). AreAllKnown vars cs) d s.left in
    let numbers = subst (λ (cs : List Clause). force ++ numbered (i + 1) (clauses_of cs) ≡ numbered 1 (clauses_of clauses)) d s.numbers in
    let empty = subst (λ (cs : List Clause). (closed || has_empty (clauses_of cs)) ≡ has_empty (clauses_of clauses)) d s.empty in
    let c : id ≡ i = s.count in
    let g : force2 ≡ force ++ (i + 1, clause.literals) ∷ [] =
    e ∙ ap (λ (n : ℕ). force ++ (n + 1, literals) ∷ []) c ∙ ap (λ (ls : List ℤ). force ++ (i + 1, ls) ∷ []) l in
    let k : suc (i + 1) ≡ i + 1 + 1 = omega arith in
    record {
      count = omega (arith, c);
      latest = omega (arith, c);
      numbers = ap (λ (x : InForce). x ++ numbered (i + 1 + 1) (clauses_of (drop (i + 1) clauses))) g
          ∙ append_assoc force ((i + 1, clause.literals) ∷ []) (numbered (i + 1 + 1) (clauses_of (drop (i + 1) clauses)))
          ∙ ap (λ (n : ℕ). force ++ (i + 1, clause.literals) ∷ numbered n (clauses_of (drop (i + 1) clauses))) (sym k) ∙ numbers;
      known = subst (λ (x : InForce). ForceIsKnown vars x) (sym g) (all_more (λ c. AreKnown vars c.1) force (i + 1, clause.literals) s.known left.0);
      left = left.1;
      empty = ap (λ (b : Bool). b || has_empty (clauses_of (drop (i + 1) clauses))) (f ∙ ap (λ (ls : List ℤ). closed || is_empty ls) l)
          ∙ one_more closed (is_empty clause.literals) (has_empty (clauses_of (drop (i + 1) clauses))) ∙ empty;
    }

-- behind the last clause all are in force
pub all_started : (vars : ℕ) (clauses : List Clause) (i id : ℕ) (closed : Bool) (force : InForce) (last : ℕ) → drop i clauses ≡ [] → Started vars clauses i id closed force last
    → (force ≡ numbered 1 (clauses_of clauses)) × (closed ≡ has_empty (clauses_of clauses))
all_started vars clauses i id closed force last d s = (
  sym (append-nil force) ∙ subst (λ (cs : List Clause). force ++ numbered (i + 1) (clauses_of cs) ≡ numbered 1 (clauses_of clauses)) d s.numbers,
  sym (or_none closed) ∙ subst (λ (cs : List Clause). (closed || has_empty (clauses_of cs)) ≡ has_empty (clauses_of clauses)) d s.empty,
)
  where
    or_none : (b : Bool) → (b || false) ≡ b
    or_none true = refl
    or_none false = refl

pub empty_is : (xs : List ℤ) → is_empty xs ≡ nat_eq (length xs) 0
empty_is [] = refl
empty_is (x ∷ xs) = sym (other_id (suc (length xs)) 0 (λ e. omega (arith, e)))
