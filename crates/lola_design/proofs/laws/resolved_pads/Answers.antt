use Rattle.lola_design.proofs.Pads.{pads_flat}
use Rattle.lola_design.proofs.laws.resolved_pads.Goals as goal

pub returns : goal.returns
returns c = λ S outside v fit. pads_flat S fit outside v
