use Rattle.std.proofs.Common.{◌≡◌, drop, length}
use Rattle.lola_alg.specs.Steps.{moves_step}
use Rattle.lola_alg.specs.Gates.{move_of}
use Rattle.lola_alg.specs.Loops.{Keeping}
use Rattle.lola_alg.proofs.shifts.shifted.Given as goal

abbrev pub invariant-loop-place : goal.invariant-loop-place
invariant-loop-place g l = record {
  steps : moves_step g.A.Algebra.calls (move_of l.way) 0 l.by l.fn.x (g.A.Algebra.state l.fn.alg)
      ≡ moves_step g.A.Algebra.calls (move_of l.way) l.place (drop l.place l.by) l.bits.items (g.A.Algebra.state l.alg);
  keeping : Keeping g.A.Algebra.meaning (g.A.Algebra.state l.fn.alg) (g.A.Algebra.state l.alg) l.bits.items;
  long : length l.bits.items ≡ length l.fn.x;
}
