use Rattle.tab_parse.proofs.Exits.{want}
use Rattle.std.proofs.Common.{sym, ◌∙◌}
use Rattle.tab_parse.specs.Placed.{active_row}
use Rattle.tab_parse.proofs.roles.take_active.Goals as goal

pub returns-in_err-port-clause-whole : goal.returns-in_err-port-clause-whole
returns-in_err-port-clause-whole c =
    λ row rest h ends.
    want _ _ _ c.from_residual.result _ c.from_residual.ensures.1 (c.in_err-port.ensures.whole h.port h.sign h.port_read tt)

pub returns-in_err-behind_equal-clause-whole : goal.returns-in_err-behind_equal-clause-whole
returns-in_err-behind_equal-clause-whole c =
    λ row rest h ends.
    let s0 = c.in_ok-port.ensures.whole h.port h.sign h.port_read tt in
    absurd (c.in_err-behind_equal.ensures.whole h.behind (rw s0.1 h.sign_passed))

pub returns-in_err-value-clause-whole : goal.returns-in_err-value-clause-whole
returns-in_err-value-clause-whole c =
    λ row rest h ends.
    let s0 = c.in_ok-port.ensures.whole h.port h.sign h.port_read tt in
    let s1 = c.in_ok-behind_equal.ensures.whole h.behind (rw s0.1 h.sign_passed) in
    want _ _ _ c.from_residual-in_err-value.result _ c.from_residual-in_err-value.ensures.1 (c.in_err-value.ensures.whole h.value h.ended (rw s1 h.value_read) tt)

pub returns-in_err-behind-clause-whole : goal.returns-in_err-behind-clause-whole
returns-in_err-behind-clause-whole c =
    λ row rest h ends.
    let s0 = c.in_ok-port.ensures.whole h.port h.sign h.port_read tt in
    let s1 = c.in_ok-behind_equal.ensures.whole h.behind (rw s0.1 h.sign_passed) in
    let s2 = c.in_ok-value.ensures.whole h.value h.ended (rw s1 h.value_read) tt in
    absurd (c.in_err-behind.ensures.whole rest (rw s2.1 h.ended_passed))

pub returns-clause-whole : goal.returns-clause-whole
returns-clause-whole c =
    λ row rest h ends.
    let s0 = c.in_ok-port.ensures.whole h.port h.sign h.port_read tt in
    let s1 = c.in_ok-behind_equal.ensures.whole h.behind (rw s0.1 h.sign_passed) in
    let s2 = c.in_ok-value.ensures.whole h.value h.ended (rw s1 h.value_read) tt in
    let s3 = c.in_ok-behind.ensures.whole rest (rw s2.1 h.ended_passed) in
    ((λ i. active_row c.args.role c.args.at (s0.0 i) (s2.0 i)) ∙ sym h.row_is, s3)
