use Rattle.lola_design.proofs.Stored.{one_update}
use Rattle.lola_design.proofs.laws.one_update.Goals as goal

pub returns : goal.returns
returns c = λ S x are. one_update x S are
