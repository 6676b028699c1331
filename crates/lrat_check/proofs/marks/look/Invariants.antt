use Rattle.lrat_check.proofs.Stamps.{Looked}
use Rattle.lrat_check.proofs.marks.look.Given as goal

abbrev pub invariant-loop-literal : goal.invariant-loop-literal
invariant-loop-literal l = Looked l.stamps l.stamp l.first l.literal-index l.clause
