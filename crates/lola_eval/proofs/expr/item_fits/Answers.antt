use Rattle.lola_eval.proofs.Loops.{fits_at}
use Rattle.lola_eval.proofs.expr.item_fits.Goals as goal

pub returns : goal.returns
returns c = λ W all. fits_at W c.args.exprs.now c.args.at c.args.expr.now c.requires.within c.requires.is all
