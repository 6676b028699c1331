use Rattle.lola_elab.proofs.Bits.{next_state}
use Rattle.lola_elab.proofs.laws.next_is_a_state.Goals as goal

pub returns : goal.returns
returns c = next_state
