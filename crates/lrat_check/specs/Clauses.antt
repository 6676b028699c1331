-- Clauses, and which of them are in force. A clause is the list of its literals.
use Rattle.std.specs.Prelude.{◌≤◌, ℕ, suc, ℤ, pos, negsuc, Bool, true, false, nat_eq, not, unsigned_abs, List, [], ◌∷◌, map, Option, None}
use Rattle.std.specs.List.{All, AllByRecursion, filter, list_any}
use Rattle.std.specs.Map.{lookup}
use Rattle.lrat_check.specs.declared.clause.Clause.{Clause}
use Rattle.lrat_check.specs.declared.clause.Cnf.{Cnf}

-- the clauses in force: ids with their literals, in the order in which they were put in force
abbrev pub InForce : Type 0
InForce = List (ℕ × List ℤ)

-- the clause in force that a hint names
abbrev pub clause_at : InForce → ℤ → Option (List ℤ)
clause_at force (pos id) = lookup (nat_eq id) force
clause_at force (negsuc n) = None

-- what is left in force without an id
abbrev pub without : InForce → ℕ → InForce
without force id = filter (λ c. not (nat_eq id c.0)) force

abbrev pub without_all : InForce → List ℕ → InForce
without_all force [] = force
without_all force (id ∷ ids) = without_all (without force id) ids

-- clauses with the ids from one on
abbrev pub numbered : ℕ → List (List ℤ) → InForce
numbered id [] = []
numbered id (c ∷ cs) = (id, c) ∷ numbered (suc id) cs

-- the literals of each clause
abbrev pub clauses_of : List Clause → List (List ℤ)
clauses_of clauses = map (λ c. c.literals) clauses

abbrev pub is_empty : List ℤ → Bool
is_empty [] = true
is_empty (l ∷ ls) = false

-- whether the empty clause is among some
abbrev pub has_empty : List (List ℤ) → Bool
has_empty clauses = list_any is_empty clauses

-- the literals of a clause are of variables up to the last
abbrev pub AreKnown : ℕ → List ℤ → Type 0
AreKnown vars clause = All (λ l. unsigned_abs l ≤ vars) clause

-- so are those of each clause
abbrev pub AreAllKnown : ℕ → List Clause → Type 0
AreAllKnown vars clauses = AllByRecursion (λ c. AreKnown vars c.literals) clauses

abbrev pub IsKnown : Cnf → Type 0
IsKnown cnf = AreAllKnown cnf.vars cnf.clauses
