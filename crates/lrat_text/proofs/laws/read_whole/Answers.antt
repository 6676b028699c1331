use Rattle.lrat_text.proofs.ReadOnly.{reads_only}
use Rattle.lrat_text.proofs.laws.read_whole.Goals as goal

pub returns : goal.returns
returns c = reads_only
