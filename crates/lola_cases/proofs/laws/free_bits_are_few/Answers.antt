use Rattle.lola_cases.proofs.Few.{few_free}
use Rattle.lola_cases.proofs.laws.free_bits_are_few.Goals as goal

pub returns : goal.returns
returns c = few_free
