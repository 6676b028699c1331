use Rattle.lola_elab.proofs.Evaluates.{op_bits}
use Rattle.lola_elab.proofs.evaluate.operated.Goals as goal

pub returns-in-Ok : goal.returns-in-Ok
returns-in-Ok c = op_bits c.args.op c.args.args.now c.in-Ok.bits c.in-Ok.ensures.means
