use Rattle.lrat_text.proofs.ReadBack.{reads_back}
use Rattle.lrat_text.proofs.laws.read_back.Goals as goal

pub returns : goal.returns
returns c = reads_back
