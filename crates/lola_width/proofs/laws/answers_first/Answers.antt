use Rattle.lola_width.proofs.Least.{answers}
use Rattle.lola_width.proofs.laws.answers_first.Goals as goal

pub returns : goal.returns
returns c = λ S. answers S
