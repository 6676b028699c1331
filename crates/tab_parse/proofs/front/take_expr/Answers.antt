use Rattle.tab_parse.proofs.Exits.{want}
use Rattle.std.proofs.Common.{sym, ◌∙◌}
use Rattle.tab_parse.proofs.front.take_expr.Goals as goal

pub returns-in_err-value-clause-whole : goal.returns-in_err-value-clause-whole
returns-in_err-value-clause-whole c =
    λ e rest h ends.
    want _ _ _ c.from_residual.result _ c.from_residual.ensures.1 (c.in_err-value.ensures.whole e.value rest h.expr ends)

pub returns-clause-whole : goal.returns-clause-whole
returns-clause-whole c =
    λ e rest h ends.
    let s0 = c.in_ok-value.ensures.whole e.value rest h.expr ends in
    ((λ i. record { value = s0.0 i; at = (c.at-at.ensures ∙ sym h.place) i }), s0.1)
