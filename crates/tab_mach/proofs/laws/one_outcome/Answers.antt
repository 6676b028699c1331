use Rattle.tab_mach.proofs.Outcomes.{one, some}
use Rattle.tab_mach.proofs.laws.one_outcome.Goals as goal

pub returns-clause-some : goal.returns-clause-some
returns-clause-some c = some

pub returns-clause-one : goal.returns-clause-one
returns-clause-one c = one
