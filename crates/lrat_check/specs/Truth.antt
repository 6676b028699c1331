-- Assignments, and what they make true.
use Rattle.std.specs.Prelude.{◌≡◌, ℕ, zero, suc, ℤ, pos, negsuc, Bool, true, false, not, List}
use Rattle.std.specs.List.{AllByRecursion, list_any}
use Rattle.lrat_check.specs.Clauses.{InForce}

-- a value for each variable
abbrev pub Assignment : Type 0
Assignment = ℕ → Bool

-- 0 is no literal, and nothing makes it true
abbrev pub literal_true : Assignment → ℤ → Bool
literal_true v (pos zero) = false
literal_true v (pos (suc n)) = v (suc n)
literal_true v (negsuc n) = not (v (suc n))

-- a clause is true where one of its literals is
abbrev pub clause_true : Assignment → List ℤ → Bool
clause_true v clause = list_any (literal_true v) clause

-- all clauses are true
abbrev pub Satisfies : Assignment → List (List ℤ) → Type 0
Satisfies v clauses = AllByRecursion (λ c. clause_true v c ≡ true) clauses

-- all clauses in force are true
abbrev pub Models : Assignment → InForce → Type 0
Models v force = AllByRecursion (λ c. clause_true v c.1 ≡ true) force
