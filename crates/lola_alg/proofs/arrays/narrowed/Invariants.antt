use Rattle.std.proofs.Common.{◌≡◌, drop}
use Rattle.std.specs.List.{AllByRecursion}
use Rattle.lola_alg.specs.Algebra.{Stays}
use Rattle.lola_alg.specs.Steps.{read_step}
use Rattle.lola_alg.specs.Means.{AreKnown, HasWidth}
use Rattle.lola_alg.proofs.arrays.narrowed.Given as goal

abbrev pub invariant-loop-at : goal.invariant-loop-at
invariant-loop-at g l = record {
  steps : read_step g.A.Algebra.calls l.fn.elements.items l.place (g.A.Algebra.state l.fn.alg) ≡ read_step g.A.Algebra.calls l.level.items (drop l.at l.place) (g.A.Algebra.state l.alg);
  stays : Stays g.A.Algebra.meaning (g.A.Algebra.state l.fn.alg) (g.A.Algebra.state l.alg);
  known : AllByRecursion (AreKnown g.A.Algebra.meaning (g.A.Algebra.state l.alg)) l.level.items;
  same : HasWidth l.level.items;
}
