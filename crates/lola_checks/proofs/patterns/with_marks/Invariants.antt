use Rattle.std.proofs.Common.{◌≡◌, true, drop}
use Rattle.lola_alg.specs.Algebra.{Stays}
use Rattle.lola_checks.specs.Steps.{fits_from}
use Rattle.lola_checks.proofs.patterns.with_marks.Given as goal

abbrev pub invariant-loop-at : goal.invariant-loop-at
invariant-loop-at g l = record {
  steps : fits_from g.A.Algebra.calls l.pattern l.bits l.fn.first (g.A.Algebra.state l.fn.alg) ≡
      fits_from g.A.Algebra.calls (drop l.at l.pattern) l.bits l.so (g.A.Algebra.state l.alg);
  stays : Stays g.A.Algebra.meaning (g.A.Algebra.state l.fn.alg) (g.A.Algebra.state l.alg);
  so : g.A.Algebra.meaning.knows (g.A.Algebra.state l.alg) l.so ≡ true;
}
