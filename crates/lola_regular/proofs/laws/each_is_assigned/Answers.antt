use Rattle.std.specs.Prelude.{reverse}
use Rattle.lola_regular.proofs.Clean.{all_clean, all_written}
use Rattle.lola_regular.proofs.Counted.{are_assigned}
use Rattle.lola_regular.proofs.laws.each_is_assigned.Goals as goal

pub returns : goal.returns
returns c = λ S sized written. are_assigned (reverse S.modules) (all_clean S sized) (all_written S written)
