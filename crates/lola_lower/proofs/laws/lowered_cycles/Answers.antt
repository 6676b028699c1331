use Rattle.lola_lower.proofs.CycleShown.{has_cycles}
use Rattle.lola_lower.proofs.laws.lowered_cycles.Goals as goal

pub returns : goal.returns
returns c = λ F net formed made. has_cycles F net formed made
