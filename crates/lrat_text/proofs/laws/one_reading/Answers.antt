use Rattle.lrat_text.proofs.Readable.{reads_once}
use Rattle.lrat_text.proofs.laws.one_reading.Goals as goal

pub returns : goal.returns
returns c = reads_once
