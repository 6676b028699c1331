use Rattle.std.proofs.Common.{◌∷◌, ap, ◌∙◌}
use Rattle.lola_unfold.specs.Pieces.{MadeTree}
use Rattle.lola_unfold.specs.Finished.{signals_from}
use Rattle.lola_unfold.proofs.Rooted.{made_are, root_count_is}
use Rattle.lola_unfold.proofs.root.design_signals.Goals as goal

pub returns : goal.returns
returns c = λ E m ready few.
    c.in_ok-signals.ensures
    ∙ ap (λ (f : MadeTree). signals_from f.heads f.equations f.nexts) (c.in_ok-made.ensures E m ready few)
    ∙ made_are c.args.count (m ∷ E) ready.once (root_count_is c.args.tables c.args.parts.now c.args.part.now c.args.at c.args.count E m ready few)
