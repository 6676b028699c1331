use Rattle.std.proofs.Common.{drop}
use Rattle.std.specs.List.{AllByRecursion}
use Rattle.lola_alg.specs.Algebra.{Stays}
use Rattle.lola_alg.specs.Steps.{write_from}
use Rattle.lola_alg.specs.Means.{AreKnown}
use Rattle.lola_alg.specs.Loops.{GoesOn}
use Rattle.lola_alg.proofs.arrays.written.Given as goal

abbrev pub invariant-loop-at : goal.invariant-loop-at
invariant-loop-at g l = record {
  steps : GoesOn (write_from g.A.Algebra.calls l.place l.value 0 l.elements (g.A.Algebra.state l.fn.alg)) l.made.items
      (write_from g.A.Algebra.calls l.place l.value l.at (drop l.at l.elements) (g.A.Algebra.state l.alg));
  stays : Stays g.A.Algebra.meaning (g.A.Algebra.state l.fn.alg) (g.A.Algebra.state l.alg);
  known : AllByRecursion (AreKnown g.A.Algebra.meaning (g.A.Algebra.state l.alg)) l.made.items;
}
