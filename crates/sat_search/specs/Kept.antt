-- What a checker has to do with the lines that it took.
use Rattle.std.specs.Prelude.{◌≡◌, ◌+◌, ℕ, ℤ, pos, Bool, true, false, List, [], ◌∷◌, length, Option, None, Some}
use Rattle.std.specs.List.{AllByRecursion}
use Rattle.lrat_check.specs.declared.clause.Clause.{Clause}
use Rattle.lrat_check.specs.declared.clause.Cnf.{Cnf}
use Rattle.lrat_check.specs.declared.line.Line.{Line}
use Rattle.lrat_check.specs.Clauses.{clause_at}
use Rattle.lrat_check.specs.Good.{Checked, fault_of}
use Rattle.lrat_check.specs.Derives.{AreGood, checked_cnf, after_all}
use Rattle.sat_search.specs.declared.keeper.Keeper.{Keeper}
use Rattle.sat_search.specs.declared.keeper.Outcome.{Outcome}
use Rattle.sat_search.specs.declared.keeper.Outcome.TheVariants.{Added, Found, Refused}
use Rattle.sat_search.specs.Found.{additions}
use Rattle.sat_search.specs.Ranges.{IsLiteral, IsHint, LineFits}
use Rattle.sat_search.specs.Values.{Assigns}

-- the first clause
abbrev pub first_of : List Clause → Option (List ℤ)
first_of [] = None
first_of (c ∷ cs) = Some c.literals

-- the lines are good and in their ranges, so many of them are additions, and the checker is as it is behind them. The first
-- clause of the Cnf is in force still, and the greatest id is that of the last addition
pub record Kept (cnf : Cnf) (checked : Checked) (lines : List Line) (count : ℕ) : Type 0 where
  pub good : AreGood (checked_cnf cnf) lines
  pub fits : AllByRecursion LineFits lines
  pub counted : additions lines ≡ count
  pub behind : checked ≡ after_all (checked_cnf cnf) lines
  pub vars : checked.vars ≡ cnf.vars
  pub last : checked.last ≡ length cnf.clauses + count
  pub in_force : (clause : List ℤ) → first_of cnf.clauses ≡ Some clause → clause_at checked.force (pos 1) ≡ Some clause

abbrev pub IsKept : Cnf → Keeper → Type 0
IsKept cnf keeper = Kept cnf keeper.checker.checked keeper.lines.items keeper.count

-- an addition that can be kept: it is good where it stands, and its literals and hints are in their ranges
pub record CanBeKept (checked : Checked) (id : ℕ) (clause hints : List ℤ) : Type 0 where
  pub good : fault_of checked id clause hints ≡ None
  pub literals : AllByRecursion IsLiteral clause
  pub ranged : AllByRecursion IsHint hints

-- so many additions are kept
abbrev pub KeptTo : Cnf → Keeper → ℕ → Type 0
KeptTo cnf keeper count = IsKept cnf keeper × (keeper.count ≡ count)

-- one more addition is kept, or none
abbrev pub KeptOrNot : Cnf → Keeper → ℕ → Bool → Type 0
KeptOrNot cnf keeper count true = KeptTo cnf keeper (count + 1)
KeptOrNot cnf keeper count false = KeptTo cnf keeper count

-- one more addition is kept, or an assignment is found, or nothing came of a claim
abbrev pub Asked : Cnf → Keeper → ℕ → Outcome → Type 0
Asked cnf keeper count Added = KeptTo cnf keeper (count + 1)
Asked cnf keeper count (Found values) = Assigns cnf values
Asked cnf keeper count Refused = KeptTo cnf keeper count

-- one more addition is kept, or an assignment is found
abbrev pub Advanced : Cnf → Keeper → ℕ → Option (List Bool) → Type 0
Advanced cnf keeper count None = KeptTo cnf keeper (count + 1)
Advanced cnf keeper count (Some values) = Assigns cnf values
