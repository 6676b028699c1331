use Rattle.lola_regular.proofs.Clean.{all_clean, all_written}
use Rattle.lola_regular.proofs.PadsPassed.{pads_fit}
use Rattle.lola_regular.proofs.laws.pads_are_pads.Goals as goal

pub returns : goal.returns
returns c = λ S sized written. pads_fit S (all_clean S sized) (all_written S written)
