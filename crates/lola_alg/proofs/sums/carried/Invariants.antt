use Rattle.std.proofs.Common.{◌≡◌, true, drop, length}
use Rattle.lola_alg.specs.Steps.{carry_step}
use Rattle.lola_alg.specs.Loops.{GoesOn, Keeping}
use Rattle.lola_alg.proofs.sums.carried.Given as goal

abbrev pub invariant-loop-at : goal.invariant-loop-at
invariant-loop-at g l = record {
  steps : GoesOn (carry_step g.A.Algebra.calls l.x l.y l.fn.first (g.A.Algebra.state l.fn.alg)) l.bits.items
      (carry_step g.A.Algebra.calls (drop l.at l.x) (drop l.at l.y) l.carry (g.A.Algebra.state l.alg));
  keeping : Keeping g.A.Algebra.meaning (g.A.Algebra.state l.fn.alg) (g.A.Algebra.state l.alg) l.bits.items;
  carry : g.A.Algebra.meaning.knows (g.A.Algebra.state l.alg) l.carry ≡ true;
  long : length l.bits.items ≡ l.at;
}
