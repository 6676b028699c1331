use Rattle.lrat_check.proofs.Sound.{lines_follow}
use Rattle.lrat_check.proofs.laws.follows.Goals as goal

pub returns : goal.returns
returns c = lines_follow
