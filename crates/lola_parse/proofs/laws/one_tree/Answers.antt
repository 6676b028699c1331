use Rattle.lola_parse.proofs.OneTree.{source_one}
use Rattle.lola_parse.proofs.laws.one_tree.Goals as goal

pub returns : goal.returns
returns c = λ all t u read other. source_one read other
