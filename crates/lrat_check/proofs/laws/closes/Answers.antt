use Rattle.lrat_check.proofs.Lines.{closes_where}
use Rattle.lrat_check.proofs.laws.closes.Goals as goal

pub returns : goal.returns
returns c = closes_where
