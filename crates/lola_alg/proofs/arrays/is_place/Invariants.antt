use Rattle.std.proofs.Common.{◌≡◌, drop}
use Rattle.lola_alg.specs.Algebra.{Keeps}
use Rattle.lola_alg.specs.Steps.{is_place_from}
use Rattle.lola_alg.proofs.arrays.is_place.Given as goal

abbrev pub invariant-loop-at : goal.invariant-loop-at
invariant-loop-at g l = record {
  steps : is_place_from g.A.Algebra.calls l.place l.fn.number l.fn.first (g.A.Algebra.state l.fn.alg)
      ≡ is_place_from g.A.Algebra.calls (drop l.at l.place) l.rest l.so (g.A.Algebra.state l.alg);
  keeps : Keeps g.A.Algebra.meaning (g.A.Algebra.state l.fn.alg) (g.A.Algebra.state l.alg) l.so;
}
