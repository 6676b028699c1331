use Rattle.std.proofs.Common.{drop}
use Rattle.lola_alg.specs.Loops.{GoesOn}
use Rattle.lola_flat.specs.Tree.{expr_trees}
use Rattle.lola_flat.specs.Value.{env}
use Rattle.lola_eval.specs.Steps.{lowers_step}
use Rattle.lola_eval.specs.Means.{EnvKnown}
use Rattle.lola_eval.proofs.expr.+lower.Given as goal

abbrev pub invariant-lower_all-loop-at : goal.invariant-lower_all-loop-at
invariant-lower_all-loop-at g l = record {
  steps : GoesOn (lowers_step g.A.Algebra.calls (env l.signals l.outside) (expr_trees l.exprs) (g.A.Algebra.state l.fn.alg)) l.made.items
      (lowers_step g.A.Algebra.calls (env l.signals l.outside) (expr_trees (drop l.at l.exprs)) (g.A.Algebra.state l.alg));
  known : EnvKnown g.A.Algebra.meaning (g.A.Algebra.state l.alg) (env l.signals l.outside);
}
