use Rattle.tab_parse.proofs.Exits.{want}
use Rattle.std.proofs.Common.{sym, ◌∙◌}
use Rattle.tab_parse.specs.Placed.{code_row}
use Rattle.tab_parse.proofs.roles.take_code.Goals as goal

pub returns-in_err-shown-clause-whole : goal.returns-in_err-shown-clause-whole
returns-in_err-shown-clause-whole c =
    λ row rest h ends.
    want _ _ _ c.from_residual.result _ c.from_residual.ensures.1 (c.in_err-shown.ensures.whole h.shown rest h.shown_read tt)

pub returns-clause-whole : goal.returns-clause-whole
returns-clause-whole c =
    λ row rest h ends.
    let s0 = c.in_ok-shown.ensures.whole h.shown rest h.shown_read tt in
    ((λ i. code_row c.args.at (s0.0 i)) ∙ sym h.row_is, s0.1)
