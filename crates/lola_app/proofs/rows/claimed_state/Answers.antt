use Rattle.lola_bits.proofs.Options.{same_fault}
use Rattle.lola_app.proofs.rows.claimed_state.Goals as goal

pub returns-in-Err-clause-none : goal.returns-in-Err-clause-none
returns-in-Err-clause-none c = λ e names small. c.in-Err.ensures.none (same_fault _ _ e) names small
