use Rattle.std.proofs.Common.{◌≡◌, drop, length}
use Rattle.lola_alg.specs.Steps.{turns_step}
use Rattle.lola_alg.specs.Loops.{Keeping}
use Rattle.lola_alg.proofs.shifts.turned_by.Given as goal

abbrev pub invariant-loop-place : goal.invariant-loop-place
invariant-loop-place g l = record {
  steps : turns_step g.A.Algebra.calls 0 l.by l.fn.x (g.A.Algebra.state l.fn.alg) ≡ turns_step g.A.Algebra.calls l.place (drop l.place l.by) l.bits.items (g.A.Algebra.state l.alg);
  keeping : Keeping g.A.Algebra.meaning (g.A.Algebra.state l.fn.alg) (g.A.Algebra.state l.alg) l.bits.items;
  long : length l.bits.items ≡ length l.fn.x;
}
