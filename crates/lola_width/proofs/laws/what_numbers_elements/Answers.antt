use Rattle.lola_width.proofs.Saying.{numbers_elements}
use Rattle.lola_width.proofs.laws.what_numbers_elements.Goals as goal

pub returns : goal.returns
returns c = λ elements bits. numbers_elements elements bits
