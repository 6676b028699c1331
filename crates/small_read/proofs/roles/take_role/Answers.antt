use Rattle.std.proofs.Common.{Some, sym, ◌∙◌}
use Rattle.small_read.proofs.RoleRows.{role_reset, role_loaded, reset_read, loaded_read}
use Rattle.small_read.proofs.Exits.{want}
use Rattle.small_read.proofs.roles.take_role.Goals as goal

pub returns-in_err-active-clause-whole : goal.returns-in_err-active-clause-whole
returns-in_err-active-clause-whole c =
    λ after rest h.
    let r = role_reset h (c.is_at.ensures.yes c.if-is_at.true) in
    want _ _ _ c.from_residual.result _ c.from_residual.ensures.1 (c.in_err-active.ensures.whole r.active rest r.row)

pub returns-in_err-port-clause-whole : goal.returns-in_err-port-clause-whole
returns-in_err-port-clause-whole c =
    λ after rest h.
    let r = role_loaded h (c.is_at.ensures.no c.if-is_at.false) in
    want _ _ _ c.from_residual-in_err-port.result _ c.from_residual-in_err-port.ensures.1 (c.in_err-port.ensures.whole r.word rest r.row)

pub returns-in_ok-with_reset-clause-ok : goal.returns-in_ok-with_reset-clause-ok
returns-in_ok-with_reset-clause-ok c = reset_read c.in_ok-active.ensures.ok c.in_ok-with_reset.ensures.first c.in_ok-with_reset.ensures.ok

pub returns-in_ok-with_reset-clause-whole : goal.returns-in_ok-with_reset-clause-whole
returns-in_ok-with_reset-clause-whole c =
    λ after rest h.
    let r = role_reset h (c.is_at.ensures.yes c.if-is_at.true) in
    let s0 = c.in_ok-active.ensures.whole r.active rest r.row in
    (c.in_ok-with_reset.ensures.ok ∙ ((λ i. record { reset = Some (s0.0 i); loaded = c.args.roles.loaded }) ∙ sym r.made), s0.1)

pub returns-in_ok-with_loaded-clause-ok : goal.returns-in_ok-with_loaded-clause-ok
returns-in_ok-with_loaded-clause-ok c = loaded_read c.in_ok-port.ensures.ok c.in_ok-with_loaded.ensures.first c.in_ok-with_loaded.ensures.ok

pub returns-in_ok-with_loaded-clause-whole : goal.returns-in_ok-with_loaded-clause-whole
returns-in_ok-with_loaded-clause-whole c =
    λ after rest h.
    let r = role_loaded h (c.is_at.ensures.no c.if-is_at.false) in
    let s0 = c.in_ok-port.ensures.whole r.word rest r.row in
    (c.in_ok-with_loaded.ensures.ok ∙ ((λ i. record { reset = c.args.roles.reset; loaded = Some (s0.0 i) }) ∙ sym r.made), s0.1)
