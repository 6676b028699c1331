use Rattle.std.specs.Prelude.{reverse}
use Rattle.lola_regular.proofs.Clean.{all_clean}
use Rattle.lola_regular.proofs.Clocks.{are_clocked}
use Rattle.lola_regular.proofs.laws.one_clock.Goals as goal

pub returns : goal.returns
returns c = λ S sized. are_clocked (reverse S.modules) (all_clean S sized)
