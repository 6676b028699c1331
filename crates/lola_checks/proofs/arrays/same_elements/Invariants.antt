use Rattle.std.proofs.Common.{◌≡◌, true, drop}
use Rattle.lola_alg.specs.Algebra.{Stays}
use Rattle.lola_checks.specs.Steps.{same_from}
use Rattle.lola_checks.proofs.arrays.same_elements.Given as goal

abbrev pub invariant-loop-at : goal.invariant-loop-at
invariant-loop-at g l = record {
  steps : same_from g.A.Algebra.calls l.left l.right l.fn.first (g.A.Algebra.state l.fn.alg) ≡
      same_from g.A.Algebra.calls (drop l.at l.left) (drop l.at l.right) l.so (g.A.Algebra.state l.alg);
  stays : Stays g.A.Algebra.meaning (g.A.Algebra.state l.fn.alg) (g.A.Algebra.state l.alg);
  so : g.A.Algebra.meaning.knows (g.A.Algebra.state l.alg) l.so ≡ true;
}
