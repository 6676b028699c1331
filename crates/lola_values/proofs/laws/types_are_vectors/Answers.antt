use Rattle.lola_regular.proofs.Clean.{all_clean}
use Rattle.lola_values.proofs.Types.{all_vectors}
use Rattle.lola_values.proofs.laws.types_are_vectors.Goals as goal

pub returns : goal.returns
returns c = λ S x sized there other. all_vectors S (all_clean S sized) x there other
