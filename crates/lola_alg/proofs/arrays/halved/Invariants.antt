use Rattle.std.proofs.Common.{ℕ, ◌*◌, drop}
use Rattle.std.specs.List.{AllByRecursion}
use Rattle.lola_alg.specs.Algebra.{Stays}
use Rattle.lola_alg.specs.Steps.{halve_step}
use Rattle.lola_alg.specs.Means.{AreKnown, AreWide}
use Rattle.lola_alg.specs.Loops.{GoesOn}
use Rattle.lola_alg.proofs.arrays.halved.Given as goal

abbrev pub invariant-loop-at : goal.invariant-loop-at
invariant-loop-at g l = record {
  steps : GoesOn (halve_step g.A.Algebra.calls l.test l.elements (g.A.Algebra.state l.fn.alg)) l.half.items
      (halve_step g.A.Algebra.calls l.test (drop (2 * l.at) l.elements) (g.A.Algebra.state l.alg));
  stays : Stays g.A.Algebra.meaning (g.A.Algebra.state l.fn.alg) (g.A.Algebra.state l.alg);
  known : AllByRecursion (AreKnown g.A.Algebra.meaning (g.A.Algebra.state l.alg)) l.half.items;
  wide : (width : ℕ) → AreWide width l.elements → AreWide width l.half.items;
}
