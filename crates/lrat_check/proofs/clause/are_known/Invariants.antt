use Rattle.std.proofs.Common.{◌↔◌, drop}
use Rattle.lrat_check.specs.Clauses.{AreAllKnown}
use Rattle.lrat_check.proofs.clause.are_known.Given as goal

abbrev pub invariant-loop-clause : goal.invariant-loop-clause
invariant-loop-clause l = AreAllKnown l.vars (drop l.clause-index l.clauses) ↔ AreAllKnown l.vars l.clauses
