use Rattle.tab_parse.proofs.Exits.{want}
use Rattle.tab_parse.proofs.Fronts.{semicolon_stops}
use Rattle.tab_parse.proofs.front.take_ended.Goals as goal

pub returns-in_err-expr-clause-whole : goal.returns-in_err-expr-clause-whole
returns-in_err-expr-clause-whole c =
    λ e rest h ends.
    want _ _ _ c.from_residual.result _ c.from_residual.ensures.1 (c.in_err-expr.ensures.whole e h.behind h.expr_read (semicolon_stops h.ended))

pub returns-in_err-behind_semicolon-clause-whole : goal.returns-in_err-behind_semicolon-clause-whole
returns-in_err-behind_semicolon-clause-whole c =
    λ e rest h ends.
    let s0 = c.in_ok-expr.ensures.whole e h.behind h.expr_read (semicolon_stops h.ended) in
    absurd (c.in_err-behind_semicolon.ensures.whole rest (rw s0.1 h.ended))

pub returns-clause-whole : goal.returns-clause-whole
returns-clause-whole c =
    λ e rest h ends.
    let s0 = c.in_ok-expr.ensures.whole e h.behind h.expr_read (semicolon_stops h.ended) in
    let s1 = c.in_ok-behind_semicolon.ensures.whole rest (rw s0.1 h.ended) in
    (s0.0, s1)
