use Rattle.lola_eval.proofs.PlainCycle.{plain_cycle}
use Rattle.lola_eval.proofs.laws.plain_makes_the_cycle.Goals as goal

pub returns : goal.returns
returns c = λ F E formed given. let p = c.plain_is_never_full.ensures in plain_cycle p.op p.read p.write F formed E given
