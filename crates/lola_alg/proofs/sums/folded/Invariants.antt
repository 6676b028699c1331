use Rattle.std.proofs.Common.{◌≡◌, drop}
use Rattle.lola_alg.specs.Algebra.{Keeps}
use Rattle.lola_alg.specs.Steps.{fold_step}
use Rattle.lola_alg.specs.Gates.{fold_of}
use Rattle.lola_alg.proofs.sums.folded.Given as goal

abbrev pub invariant-loop-at : goal.invariant-loop-at
invariant-loop-at g l = record {
  steps : fold_step g.A.Algebra.calls (fold_of g.A.Algebra.calls l.fold) l.x l.y l.fn.first (g.A.Algebra.state l.fn.alg)
      ≡ fold_step g.A.Algebra.calls (fold_of g.A.Algebra.calls l.fold) (drop l.at l.x) (drop l.at l.y) l.so (g.A.Algebra.state l.alg);
  keeps : Keeps g.A.Algebra.meaning (g.A.Algebra.state l.fn.alg) (g.A.Algebra.state l.alg) l.so;
}
