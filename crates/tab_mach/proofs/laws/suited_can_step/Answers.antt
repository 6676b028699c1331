use Rattle.tab_mach.proofs.Suited.{suited}
use Rattle.tab_mach.proofs.laws.suited_can_step.Goals as goal

pub returns : goal.returns
returns c = suited
