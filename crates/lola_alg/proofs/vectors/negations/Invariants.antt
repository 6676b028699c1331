use Rattle.std.proofs.Common.{drop, ◌≡◌, length}
use Rattle.lola_alg.specs.Steps.{each_step, not_step}
use Rattle.lola_alg.specs.Loops.{GoesOn, Keeping}
use Rattle.lola_alg.proofs.vectors.negations.Given as goal

abbrev pub invariant-loop-at : goal.invariant-loop-at
invariant-loop-at g l = record {
  steps : GoesOn (each_step (not_step g.A.Algebra.calls) l.x (g.A.Algebra.state l.fn.alg)) l.bits.items
      (each_step (not_step g.A.Algebra.calls) (drop l.at l.x) (g.A.Algebra.state l.alg));
  keeping : Keeping g.A.Algebra.meaning (g.A.Algebra.state l.fn.alg) (g.A.Algebra.state l.alg) l.bits.items;
  long : length l.bits.items ≡ l.at;
}
