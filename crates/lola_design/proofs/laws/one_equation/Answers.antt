use Rattle.lola_design.proofs.Counts.{one_equation}
use Rattle.lola_design.proofs.laws.one_equation.Goals as goal

pub returns : goal.returns
returns c = λ S x are. one_equation x S are
