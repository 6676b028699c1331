use Rattle.sat_search.proofs.SameAgain.{added_again}
use Rattle.sat_search.proofs.laws.again.Goals as goal

pub returns : goal.returns
returns c = added_again
