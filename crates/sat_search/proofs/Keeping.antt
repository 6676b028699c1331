-- One more line is kept.
use Rattle.std.proofs.Common.{arith, ◌≡◌, ◌≤◌, ◌<◌, ◌+◌, ℕ, ℤ, pos, Bool, true, false, nat_eq, get_or, ◌↔◌, List, [], ◌∷◌, ◌++◌, length, Option, None, Some, refl, sym, ◌∙◌, ap, subst, inl, inr}
use Rattle.std.specs.List.{AllByRecursion, list_all}
use Rattle.std.specs.declared.result.Result.TheVariants.{Ok}
use Rattle.std.specs.Map.{lookup}
use Rattle.std.proofs.lemmas.Bool.{cases_Bool}
use Rattle.std.proofs.lemmas.Bool.Decides.{Decides-eqb}
use Rattle.lola_bits.proofs.All.{all_more}
use Rattle.lola_bits.proofs.Options.{nothing}
use Rattle.lola_bits.proofs.Tests.{not_both}
use Rattle.lrat_check.specs.declared.clause.Clause.{Clause}
use Rattle.lrat_check.specs.declared.clause.Cnf.{Cnf}
use Rattle.lrat_check.specs.declared.line.Line.{Line}
use Rattle.lrat_check.specs.declared.line.Line.TheVariants.{Add, Delete}
use Rattle.lrat_check.specs.declared.line_error.LineError.{LineError}
use Rattle.lrat_check.specs.Clauses.{InForce, IsKnown, AreKnown, clause_at, without, without_all, numbered, clauses_of, has_empty}
use Rattle.lrat_check.specs.Good.{Checked, fault_of, Answers}
use Rattle.lrat_check.specs.Derives.{checked_cnf, with_clause, without_ids, after, after_all, AreGood, IsGood, added, Derives}
use Rattle.sat_search.specs.Found.{additions, Refutes, Spends}
use Rattle.sat_search.specs.Ranges.{HasLiterals, IsLiteral, LineFits, is_later}
use Rattle.sat_search.specs.Kept.{Kept, KeptTo, KeptOrNot, CanBeKept, first_of}
use Rattle.sat_search.specs.declared.keeper.Keeper.{Keeper}
use Rattle.sat_search.proofs.Tests.{later_than}
use Rattle.sat_search.proofs.SameAgain.{added_again}

goes_on : (lines : List Line) (line : Line) (base : Checked) → after_all base (lines ++ line ∷ []) ≡ after (after_all base lines) line
goes_on [] line base = refl
goes_on (first ∷ lines) line base = goes_on lines line (after base first)

good_more : (lines : List Line) (line : Line) (base : Checked) → AreGood base lines → IsGood (after_all base lines) line → AreGood base (lines ++ line ∷ [])
good_more [] line base a g = (g, tt)
good_more (first ∷ lines) line base a g = (a.0, good_more lines line (after base first) a.1 g)

one_more : (lines : List Line) (id : ℕ) (clause : Clause) (hints : List ℤ) → additions (lines ++ Add id clause hints ∷ []) ≡ additions lines + 1
one_more [] id clause hints = refl
one_more (Add i c h ∷ lines) id clause hints = let e = one_more lines id clause hints in omega (arith, e)
one_more (Delete i ids ∷ lines) id clause hints = one_more lines id clause hints

none_more : (lines : List Line) (id : ℕ) (ids : List ℕ) → additions (lines ++ Delete id ids ∷ []) ≡ additions lines
none_more [] id ids = refl
none_more (Add i c h ∷ lines) id ids = let e = none_more lines id ids in omega (arith, e)
none_more (Delete i js ∷ lines) id ids = none_more lines id ids

-- what is in force stays so behind an addition
found_still : (force : InForce) (id : ℕ) (c : List ℤ) (more : InForce) → lookup (nat_eq id) force ≡ Some c → lookup (nat_eq id) (force ++ more) ≡ Some c
found_still [] id c more e = nothing c e
found_still (x ∷ xs) id c more e = elim (cases_Bool (nat_eq id x.0)) [
  | inl t ↦ rw t (rw t at e)
  | inr f ↦ rw f (found_still xs id c more (rw f at e))
]

-- and where another id is taken out
found_without : (force : InForce) (id other : ℕ) (c : List ℤ) → nat_eq other id ≡ false → lookup (nat_eq id) force ≡ Some c → lookup (nat_eq id) (without force other) ≡ Some c
found_without [] id other c d e = nothing c e
found_without (x ∷ xs) id other c d e = elim (cases_Bool (nat_eq id x.0)) [
  | inl t ↦
      let same : id ≡ x.0 = (Decides-eqb id x.0).0 t in
      let f : nat_eq other x.0 ≡ false = subst (λ (n : ℕ). nat_eq other n ≡ false) same d in
      rw (f, t) (rw t at e)
  | inr g ↦ elim (cases_Bool (nat_eq other x.0)) [
    | inl t ↦ rw t (found_without xs id other c d (rw g at e))
    | inr f ↦ rw (f, g) (found_without xs id other c d (rw g at e))
  ]
]

other_than : (n m : ℕ) → m < n → nat_eq n m ≡ false
other_than n m l = elim (cases_Bool (nat_eq n m)) [
  | inl t ↦ let q : n ≡ m = (Decides-eqb n m).0 t in absurd (omega arith)
  | inr f ↦ f
]

first_stays : (clauses : ℕ) (ids : List ℕ) (force : InForce) (c : List ℤ) → 1 ≤ clauses → list_all (is_later clauses) ids ≡ true → lookup (nat_eq 1) force ≡ Some c
    → lookup (nat_eq 1) (without_all force ids) ≡ Some c
first_stays clauses [] force c some e f = f
first_stays clauses (id ∷ ids) force c some e f = elim (cases_Bool (is_later clauses id)) [
  | inl t ↦ let l = later_than clauses id t in
      first_stays clauses ids (without force id) c some (rw t at e) (found_without force 1 id c (other_than id 1 (omega arith)) f)
  | inr g ↦ let q : false ≡ true = rw g at e in absurd (cc)
]

has_some : (cs : List Clause) (c : List ℤ) → first_of cs ≡ Some c → 1 ≤ length cs
has_some [] c e = nothing c e
has_some (d ∷ cs) c e = omega arith

first_in_force : (cs : List Clause) (c : List ℤ) → first_of cs ≡ Some c → lookup (nat_eq 1) (numbered 1 (clauses_of cs)) ≡ Some c
first_in_force [] c e = nothing c e
first_in_force (d ∷ cs) c e = e

pub kept_none : (cnf : Cnf) (checked : Checked) → checked ≡ checked_cnf cnf → Kept cnf checked [] 0
kept_none cnf checked e = record {
  good = tt;
  fits = tt;
  counted = refl;
  behind = e;
  vars = ap (λ (s : Checked). s.vars) e;
  last = let l = ap (λ (s : Checked). s.last) e in omega (arith, l);
  in_force = λ clause f. subst (λ (s : Checked). clause_at s.force (pos 1) ≡ Some clause) (sym e) (first_in_force cnf.clauses clause f);
}

pub kept_more : (cnf : Cnf) (checked next : Checked) (lines : List Line) (count id : ℕ) (clause : Clause) (hints : List ℤ) → Kept cnf checked lines count
    → id ≡ length cnf.clauses + count + 1 → fault_of checked id clause.literals hints ≡ None → next ≡ with_clause checked id clause.literals
    → LineFits (Add id clause hints) → Kept cnf next (lines ++ Add id clause hints ∷ []) (count + 1)
kept_more cnf checked next lines count id clause hints k i g n f = record {
  good = good_more lines (Add id clause hints) (checked_cnf cnf) k.good (subst (λ (s : Checked). fault_of s id clause.literals hints ≡ None) k.behind g);
  fits = all_more LineFits lines (Add id clause hints) k.fits f;
  counted = one_more lines id clause hints ∙ ap (λ (m : ℕ). m + 1) k.counted;
  behind = n ∙ ap (λ (s : Checked). with_clause s id clause.literals) k.behind ∙ sym (goes_on lines (Add id clause hints) (checked_cnf cnf));
  vars = ap (λ (s : Checked). s.vars) n ∙ k.vars;
  last = let l = ap (λ (s : Checked). s.last) n in omega (arith, l, i);
  in_force = λ c e. subst (λ (s : Checked). clause_at s.force (pos 1) ≡ Some c) (sym n) (found_still checked.force 1 c ((id, clause.literals) ∷ []) (k.in_force c e));
}

pub kept_less : (cnf : Cnf) (checked next : Checked) (lines : List Line) (count id : ℕ) (ids : List ℕ) → Kept cnf checked lines count
    → next ≡ without_ids checked ids → list_all (is_later (length cnf.clauses)) ids ≡ true
    → LineFits (Delete id ids) → Kept cnf next (lines ++ Delete id ids ∷ []) count
kept_less cnf checked next lines count id ids k n a f = record {
  good = good_more lines (Delete id ids) (checked_cnf cnf) k.good tt;
  fits = all_more LineFits lines (Delete id ids) k.fits f;
  counted = none_more lines id ids ∙ k.counted;
  behind = n ∙ ap (λ (s : Checked). without_ids s ids) k.behind ∙ sym (goes_on lines (Delete id ids) (checked_cnf cnf));
  vars = ap (λ (s : Checked). s.vars) n ∙ k.vars;
  last = ap (λ (s : Checked). s.last) n ∙ k.last;
  in_force = λ c e. subst (λ (s : Checked). clause_at s.force (pos 1) ≡ Some c) (sym n) (first_stays (length cnf.clauses) ids checked.force c (has_some cnf.clauses c e) a (k.in_force c e));
}

-- an addition that the checker took has no fault
pub none_wrong : {T : Type 0} (fault : Option LineError) (x : T) → Answers fault (Ok x) → fault ≡ None
none_wrong None x a = refl
none_wrong (Some fault) x a = absurd (cc)

first_all : (P : Clause → Type 0) (cs : List Clause) (first : Clause) → 1 ≤ length cs → first ≡ get_or cs 0 first → AllByRecursion P cs → P first
first_all P [] first some e a = absurd (omega arith)
first_all P (c ∷ cs) first some e a = subst P (sym e) a.0

is_first : (cs : List Clause) (first : Clause) → 1 ≤ length cs → first ≡ get_or cs 0 first → first_of cs ≡ Some first.literals
is_first [] first some e = absurd (omega arith)
is_first (c ∷ cs) first some e = ap (λ (d : Clause). Some d.literals) (sym e)

-- the first clause of the Cnf can be kept once more
pub first_again : (cnf : Cnf) (checked : Checked) (lines : List Line) (count : ℕ) (first : Clause) → Kept cnf checked lines count → IsKnown cnf → HasLiterals cnf
    → 1 ≤ length cnf.clauses → first ≡ get_or cnf.clauses 0 first → CanBeKept checked (length cnf.clauses + count + 1) first.literals (pos 1 ∷ [])
first_again cnf checked lines count first k known literals some e = record {
  good = let l = k.last in let w : checked.last < length cnf.clauses + count + 1 = omega (arith, l) in
      added_again checked (length cnf.clauses + count + 1) 1 first.literals w
      (subst (λ (n : ℕ). AreKnown n first.literals) (sym k.vars) (first_all (λ c. AreKnown cnf.vars c.literals) cnf.clauses first some e known))
      (k.in_force first.literals (is_first cnf.clauses first some e));
  literals = first_all (λ c. AllByRecursion IsLiteral c.literals) cnf.clauses first some e literals;
  ranged = (record { positive = omega arith; below = omega arith }, tt);
}

-- what isn't refused is kept
pub not_refused : (cnf : Cnf) (keeper : Keeper) (count : ℕ) (taken : Bool) → KeptOrNot cnf keeper count taken → (taken ≡ false → ⊥) → KeptTo cnf keeper (count + 1)
not_refused cnf keeper count true k n = k
not_refused cnf keeper count false k n = absurd (n refl)

pub kept_refutes : (cnf : Cnf) (checked : Checked) (lines : List Line) (count limit : ℕ)
    → (AreGood (checked_cnf cnf) lines → (after_all (checked_cnf cnf) lines).closed ≡ true ↔ Derives cnf lines)
    → Kept cnf checked lines count → checked.closed ≡ true → count ≤ limit → Refutes cnf limit lines
kept_refutes cnf checked lines count limit law k c l = record {
  derives = (law k.good).0 (ap (λ (s : Checked). s.closed) (sym k.behind) ∙ c);
  within = let e = k.counted in omega (arith, e, l);
  fits = k.fits;
}

pub kept_spends : (cnf : Cnf) (checked : Checked) (lines : List Line) (count limit : ℕ)
    → (AreGood (checked_cnf cnf) lines → (after_all (checked_cnf cnf) lines).closed ≡ true ↔ Derives cnf lines)
    → Kept cnf checked lines count → checked.closed ≡ false → count ≡ limit → Spends cnf limit lines
kept_spends cnf checked lines count limit law k c l = record {
  good = k.good;
  open_still = elim (cases_Bool (has_empty (clauses_of cnf.clauses ++ added lines))) [
    | inl t ↦ not_both ((law k.good).1 (record { good = k.good; closes = t })) (ap (λ (s : Checked). s.closed) (sym k.behind) ∙ c)
    | inr f ↦ f
  ];
  exactly = k.counted ∙ l;
  fits = k.fits;
}
