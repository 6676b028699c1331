use Rattle.std.proofs.Common.{◌≡◌, take, drop}
use Rattle.lola_flat.specs.Tree.{flat_tree}
use Rattle.lola_flat.specs.Value.{env}
use Rattle.lola_eval.specs.Steps.{signals_step}
use Rattle.lola_eval.proofs.Placed.{Placed}
use Rattle.lola_eval.proofs.signals.lower_order.Given as goal

abbrev pub invariant-loop-at : goal.invariant-loop-at
invariant-loop-at g l = record {
  steps : signals_step g.A.Algebra.calls (flat_tree l.flat) (env l.fn.given.items l.outside) l.order (g.A.Algebra.state l.fn.alg)
      ≡ signals_step g.A.Algebra.calls (flat_tree l.flat) (env l.table.items l.outside) (drop l.at l.order) (g.A.Algebra.state l.alg);
  placed : Placed (flat_tree l.flat) g.A.Algebra.meaning (env l.fn.given.items l.outside) (g.A.Algebra.state l.fn.alg) (take l.at l.order) (g.A.Algebra.state l.alg) l.table.items;
}
