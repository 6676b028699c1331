use Rattle.lola_width.proofs.Saying.{are_assigned}
use Rattle.lola_width.proofs.laws.what_is_assigned.Goals as goal

pub returns : goal.returns
returns c = λ names seen m at name. are_assigned names seen m at name
