use Rattle.lola_lower.proofs.NamedNet.{has_bit_names}
use Rattle.lola_lower.proofs.laws.lowered_names.Goals as goal

pub returns : goal.returns
returns c = λ F net formed identifiers made. has_bit_names F net formed identifiers made
