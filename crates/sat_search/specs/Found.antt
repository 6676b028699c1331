-- What each answer of a search says.
use Rattle.std.specs.Prelude.{◌≡◌, ◌≤◌, ◌++◌, ℕ, false, List, length}
use Rattle.std.specs.List.{AllByRecursion}
use Rattle.lrat_check.specs.declared.clause.Cnf.{Cnf}
use Rattle.lrat_check.specs.declared.line.Line.{Line}
use Rattle.lrat_check.specs.Clauses.{clauses_of, has_empty}
use Rattle.lrat_check.specs.Derives.{Derives, AreGood, checked_cnf, added}
use Rattle.sat_search.specs.declared.found.Found.{Found}
use Rattle.sat_search.specs.declared.found.Found.TheVariants as found
use Rattle.sat_search.specs.declared.found.SplitFound.{SplitFound}
use Rattle.sat_search.specs.declared.found.SplitFound.TheVariants as split
use Rattle.sat_search.specs.Ranges.{LineFits}
use Rattle.sat_search.specs.Values.{Assigns}

-- how many of the lines are additions
abbrev pub additions : List Line → ℕ
additions lines = length (added lines)

-- lines that refute the clauses by so many additions at most
pub record Refutes (cnf : Cnf) (limit : ℕ) (lines : List Line) : Type 0 where
  pub derives : Derives cnf lines
  pub within : additions lines ≤ limit
  pub fits : AllByRecursion LineFits lines

-- good lines of exactly so many additions, and none of the Cnf or of these is the empty clause
pub record Spends (cnf : Cnf) (limit : ℕ) (lines : List Line) : Type 0 where
  pub good : AreGood (checked_cnf cnf) lines
  pub open_still : has_empty (clauses_of cnf.clauses ++ added lines) ≡ false
  pub exactly : additions lines ≡ limit
  pub fits : AllByRecursion LineFits lines

-- a refutation within the limit, an assignment, or lines that spend the limit
abbrev pub Answers : Cnf → ℕ → Found → Type 0
Answers cnf limit (found.Refutation lines) = Refutes cnf limit lines
Answers cnf limit (found.Assignment values) = Assigns cnf values
Answers cnf limit (found.Spent lines) = Spends cnf limit lines

-- lines that refute the clauses
pub record Closes (cnf : Cnf) (lines : List Line) : Type 0 where
  pub derives : Derives cnf lines
  pub fits : AllByRecursion LineFits lines

-- a refutation or an assignment
abbrev pub Splits : Cnf → SplitFound → Type 0
Splits cnf (split.Refutation lines) = Closes cnf lines
Splits cnf (split.Assignment values) = Assigns cnf values
