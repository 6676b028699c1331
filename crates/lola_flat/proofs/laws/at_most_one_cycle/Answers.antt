use Rattle.lola_flat.proofs.OneCycle.{same_cycle}
use Rattle.lola_flat.proofs.laws.at_most_one_cycle.Goals as goal

pub returns : goal.returns
returns c = λ F given outside N M formed p q. same_cycle F formed given outside N M p q
