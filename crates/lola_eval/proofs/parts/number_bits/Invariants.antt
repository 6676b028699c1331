use Rattle.std.proofs.Common.{◌-◌}
use Rattle.lola_alg.specs.Loops.{GoesOn}
use Rattle.lola_eval.specs.Steps.{number_step}
use Rattle.lola_eval.proofs.parts.number_bits.Given as goal

abbrev pub invariant-loop-place : goal.invariant-loop-place
invariant-loop-place g l = record {
  steps : GoesOn (number_step g.A.Algebra.calls l.fn.width l.fn.value (g.A.Algebra.state l.fn.alg)) l.bits.items (number_step g.A.Algebra.calls (l.width - l.place) l.rest (g.A.Algebra.state l.alg));
}
