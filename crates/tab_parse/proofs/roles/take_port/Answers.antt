use Rattle.tab_parse.proofs.Exits.{want}
use Rattle.std.proofs.Common.{sym, ◌∙◌}
use Rattle.tab_parse.specs.Placed.{port_row}
use Rattle.tab_parse.proofs.roles.take_port.Goals as goal

pub returns-in_err-port-clause-whole : goal.returns-in_err-port-clause-whole
returns-in_err-port-clause-whole c =
    λ row rest h ends.
    want _ _ _ c.from_residual.result _ c.from_residual.ensures.1 (c.in_err-port.ensures.whole h.port h.ended h.port_read tt)

pub returns-in_err-behind-clause-whole : goal.returns-in_err-behind-clause-whole
returns-in_err-behind-clause-whole c =
    λ row rest h ends.
    let s0 = c.in_ok-port.ensures.whole h.port h.ended h.port_read tt in
    absurd (c.in_err-behind.ensures.whole rest (rw s0.1 h.ended_passed))

pub returns-clause-whole : goal.returns-clause-whole
returns-clause-whole c =
    λ row rest h ends.
    let s0 = c.in_ok-port.ensures.whole h.port h.ended h.port_read tt in
    let s1 = c.in_ok-behind.ensures.whole rest (rw s0.1 h.ended_passed) in
    ((λ i. port_row c.args.role c.args.at (s0.0 i)) ∙ sym h.row_is, s1)
