-- Lists of lines, from the clauses of a Cnf on.
use Rattle.std.specs.Prelude.{◌≡◌, ℕ, ℤ, true, cond, length, List, [], ◌∷◌, ◌++◌, None}
use Rattle.lrat_check.specs.declared.clause.Cnf.{Cnf}
use Rattle.lrat_check.specs.declared.line.Line.{Line}
use Rattle.lrat_check.specs.declared.line.Line.TheVariants.{Add, Delete}
use Rattle.lrat_check.specs.Clauses.{without_all, numbered, clauses_of, is_empty, has_empty}
use Rattle.lrat_check.specs.Good.{Checked, fault_of}

-- the clauses of a Cnf are in force under the ids from 1 on
abbrev pub checked_cnf : Cnf → Checked
checked_cnf cnf = record {
  vars = cnf.vars;
  force = numbered 1 (clauses_of cnf.clauses);
  last = length cnf.clauses;
  closed = has_empty (clauses_of cnf.clauses);
}

-- a clause is put in force
abbrev pub with_clause : Checked → ℕ → List ℤ → Checked
with_clause base id clause = record base {
  force = base.force ++ (id, clause) ∷ [];
  last = id;
  closed = cond (is_empty clause) true base.closed;
}

-- ids are taken out of force
abbrev pub without_ids : Checked → List ℕ → Checked
without_ids base ids = record base { force = without_all base.force ids }

-- a line is good where its addition has no fault
abbrev pub IsGood : Checked → Line → Type 0
IsGood base (Add id clause hints) = fault_of base id clause.literals hints ≡ None
IsGood base (Delete id ids) = Unit {0}

-- what has been checked after a line, and after several
abbrev pub after : Checked → Line → Checked
after base (Add id clause hints) = with_clause base id clause.literals
after base (Delete id ids) = without_ids base ids

abbrev pub after_all : Checked → List Line → Checked
after_all base [] = base
after_all base (line ∷ lines) = after_all (after base line) lines

-- each line is good where it stands
abbrev pub AreGood : Checked → List Line → Type 0
AreGood base [] = Unit {0}
AreGood base (line ∷ lines) = IsGood base line × AreGood (after base line) lines

-- the clauses that lines add
abbrev pub added : List Line → List (List ℤ)
added [] = []
added (Add id clause hints ∷ lines) = clause.literals ∷ added lines
added (Delete id ids ∷ lines) = added lines

-- each line is good, and the empty clause is among those of the Cnf or the added ones
pub record Derives (cnf : Cnf) (lines : List Line) : Type 0 where
  pub good : AreGood (checked_cnf cnf) lines
  pub closes : has_empty (clauses_of cnf.clauses ++ added lines) ≡ true
