use Rattle.lrat_text.proofs.ComesAgain.{comes_again}
use Rattle.lrat_text.proofs.laws.again.Goals as goal

pub returns : goal.returns
returns c = comes_again
