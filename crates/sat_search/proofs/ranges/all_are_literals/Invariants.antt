use Rattle.std.proofs.Common.{◌↔◌, drop}
use Rattle.std.specs.List.{AllByRecursion}
use Rattle.lrat_check.specs.declared.clause.Clause.{Clause}
use Rattle.sat_search.specs.Ranges.{IsLiteral}
use Rattle.sat_search.proofs.ranges.all_are_literals.Given as goal

abbrev pub invariant-loop-clause : goal.invariant-loop-clause
invariant-loop-clause l = AllByRecursion (λ (c : Clause). AllByRecursion IsLiteral c.literals) (drop l.clause-index l.clauses) ↔ AllByRecursion (λ (c : Clause). AllByRecursion IsLiteral c.literals) l.clauses
