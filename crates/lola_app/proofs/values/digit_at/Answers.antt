use Rattle.lola_app.proofs.Trying.{digit_step}
use Rattle.lola_app.proofs.values.digit_at.Goals as goal

pub loop-below-preserved : goal.loop-below-preserved
loop-below-preserved c = digit_step c.args.value c.loop-below.rest c.loop-below._below c.loop-below.invariant
