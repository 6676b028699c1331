use Rattle.lrat_check.proofs.Started.{Started}
use Rattle.lrat_check.proofs.checker.put_all.Given as goal

abbrev pub invariant-loop-clause : goal.invariant-loop-clause
invariant-loop-clause l = Started l.vars l.clauses l.clause-index l.id l.closed l.table.force l.table.last
