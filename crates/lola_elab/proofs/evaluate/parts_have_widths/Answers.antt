use Rattle.lola_elab.proofs.Evaluates.{parts_have}
use Rattle.lola_elab.proofs.evaluate.parts_have_widths.Goals as goal

pub returns : goal.returns
returns c = parts_have c.args.leaves.now c.args.flat.now c.requires
