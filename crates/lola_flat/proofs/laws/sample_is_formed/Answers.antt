use Rattle.lola_flat.proofs.SampleFormed.{sample_formed}
use Rattle.lola_flat.proofs.laws.sample_is_formed.Goals as goal

pub returns : goal.returns
returns c = sample_formed
