use Rattle.lola_design.proofs.Paths.{paths_once}
use Rattle.lola_design.proofs.laws.one_path.Goals as goal

pub returns : goal.returns
returns c = λ S x all. paths_once S all x
