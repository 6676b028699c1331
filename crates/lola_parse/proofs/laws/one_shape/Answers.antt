use Rattle.lola_parse.proofs.OneTree.{shaped_one}
use Rattle.lola_parse.proofs.laws.one_shape.Goals as goal

pub returns : goal.returns
returns c = λ all t u rest more read other. shaped_one read u more other tt
