use Rattle.std.proofs.Common.{drop, ◌≡◌, length}
use Rattle.lola_alg.specs.Steps.{pairs_step}
use Rattle.lola_alg.specs.Gates.{gate_step}
use Rattle.lola_alg.specs.Loops.{GoesOn, Keeping}
use Rattle.lola_alg.proofs.vectors.pairs.Given as goal

abbrev pub invariant-loop-at : goal.invariant-loop-at
invariant-loop-at g l = record {
  steps : GoesOn (pairs_step (gate_step g.A.Algebra.calls l.gate) l.x l.y (g.A.Algebra.state l.fn.alg)) l.bits.items
      (pairs_step (gate_step g.A.Algebra.calls l.gate) (drop l.at l.x) (drop l.at l.y) (g.A.Algebra.state l.alg));
  keeping : Keeping g.A.Algebra.meaning (g.A.Algebra.state l.fn.alg) (g.A.Algebra.state l.alg) l.bits.items;
  long : length l.bits.items ≡ l.at;
}
