use Rattle.lola_regular.proofs.Clean.{all_clean}
use Rattle.lola_regular.proofs.Once.{all_once}
use Rattle.lola_regular.proofs.laws.names_are_once.Goals as goal
use Rattle.std.specs.Prelude.{reverse}

pub returns : goal.returns
returns c = λ S sized. all_once (reverse S.modules) (all_clean S sized)
