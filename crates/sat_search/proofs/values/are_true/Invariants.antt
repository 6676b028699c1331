use Rattle.std.proofs.Common.{drop}
use Rattle.lrat_check.specs.Clauses.{clauses_of}
use Rattle.lrat_check.specs.Truth.{Satisfies}
use Rattle.sat_search.specs.Values.{value_of}
use Rattle.sat_search.proofs.values.are_true.Given as goal

abbrev pub invariant-loop-clause : goal.invariant-loop-clause
invariant-loop-clause l = Satisfies (value_of l.values) (clauses_of (drop l.clause-index l.clauses)) → Satisfies (value_of l.values) (clauses_of l.clauses)
