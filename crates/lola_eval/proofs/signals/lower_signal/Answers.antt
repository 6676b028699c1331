use Rattle.std.proofs.Common.{sym, ◌∙◌}
use Rattle.lola_eval.proofs.signals.lower_signal.Goals as goal

pub returns-clause-means : goal.returns-clause-means
returns-clause-means g c = λ e its. c.lower_equation.ensures.means e (sym c.signal_at.ensures.equation ∙ its)
