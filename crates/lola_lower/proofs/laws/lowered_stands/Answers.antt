use Rattle.lola_lower.proofs.MadeAgain.{stands_as_made}
use Rattle.lola_lower.proofs.laws.lowered_stands.Goals as goal

pub returns : goal.returns
returns c = λ F net formed identifiers root made. stands_as_made F net formed identifiers root made
