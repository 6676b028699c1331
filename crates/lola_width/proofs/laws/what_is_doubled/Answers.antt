use Rattle.lola_width.proofs.Again.{are_doubled}
use Rattle.lola_width.proofs.laws.what_is_doubled.Goals as goal

pub returns : goal.returns
returns c = λ m at name. are_doubled m at name
