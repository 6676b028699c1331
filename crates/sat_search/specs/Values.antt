-- An assignment as a list of values.
use Rattle.std.specs.Prelude.{◌≡◌, zero, suc, Bool, false, List, slice_index_or, length}
use Rattle.lrat_check.specs.declared.clause.Cnf.{Cnf}
use Rattle.lrat_check.specs.Clauses.{clauses_of}
use Rattle.lrat_check.specs.Truth.{Assignment, Satisfies}

-- the value of a variable in a list, where that of variable 1 comes first
abbrev pub value_of : List Bool → Assignment
value_of values zero = false
value_of values (suc n) = slice_index_or values n false

-- a value for each variable, and each clause is true
pub record Assigns (cnf : Cnf) (values : List Bool) : Type 0 where
  pub one_each : length values ≡ cnf.vars
  pub satisfies : Satisfies (value_of values) (clauses_of cnf.clauses)
