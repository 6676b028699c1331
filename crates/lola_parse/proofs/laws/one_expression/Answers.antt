use Rattle.lola_parse.proofs.Unique.{outermost_one}
use Rattle.lola_parse.proofs.laws.one_expression.Goals as goal

pub returns : goal.returns
returns c = λ language all e f rest more read stops other k. outermost_one read stops f more other k
