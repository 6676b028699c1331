use Rattle.small_read.proofs.Exits.{want, want_of}
use Rattle.small_read.proofs.rows.take_shape.Goals as goal

pub returns-in_err-shape-clause-whole : goal.returns-in_err-shape-clause-whole
returns-in_err-shape-clause-whole c =
    λ shape rest h. want _ _ _ c.from_residual.result _ c.from_residual.ensures.1 (want_of _ (c.in_err-shape.ensures.whole shape rest h tt))

pub returns-clause-whole : goal.returns-clause-whole
returns-clause-whole c = λ shape rest h. c.in_ok-shape.ensures.whole shape rest h tt
