use Rattle.lola_eval.proofs.PlainCycle.{bits_fit, one_cycle}
use Rattle.lola_eval.proofs.laws.one_cycle.Goals as goal

pub returns : goal.returns
returns c = λ F given outside formed fits outer. one_cycle F formed given outside fits outer (c.plain_makes_the_cycle.ensures F _ formed (bits_fit F formed given outside fits outer))
