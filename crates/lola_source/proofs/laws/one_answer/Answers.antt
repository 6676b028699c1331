use Rattle.lola_source.proofs.OneAnswer as law
use Rattle.lola_source.proofs.laws.one_answer.Goals as goal

pub returns : goal.returns
returns c = λ bytes. law.one_answer c.one_reading.ensures c.one_tree.ensures bytes
