use Rattle.lola_written.proofs.Spelled.{source_written}
use Rattle.lola_written.proofs.laws.texts_are_written.Goals as goal

pub returns : goal.returns
returns c = λ items S spelled. source_written items S spelled
