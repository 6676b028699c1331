use Rattle.std.proofs.Common.{[], drop}
use Rattle.lola_alg.specs.Loops.{GoesOn}
use Rattle.lola_flat.specs.Tree.{flat_tree}
use Rattle.lola_flat.specs.Value.{env}
use Rattle.lola_eval.specs.Steps.{state_step}
use Rattle.lola_eval.proofs.StateSoFar.{StateSoFar}
use Rattle.lola_eval.proofs.next.lower_state.Given as goal

abbrev pub invariant-loop-at : goal.invariant-loop-at
invariant-loop-at g l = record {
  steps : GoesOn (state_step g.A.Algebra.calls (env l.signals []) (flat_tree l.flat).signals 0 (g.A.Algebra.state l.fn.alg)) l.made.items
      (state_step g.A.Algebra.calls (env l.signals []) (drop l.at (flat_tree l.flat).signals) l.at (g.A.Algebra.state l.alg));
  kept : StateSoFar g.A.Algebra.meaning (flat_tree l.flat) (env l.signals []) (g.A.Algebra.state l.fn.alg) l.at (g.A.Algebra.state l.alg) l.made.items;
}
