use Rattle.tab_parse.proofs.Exits.{want}
use Rattle.std.proofs.Common.{sym}
use Rattle.tab_parse.proofs.rows.take_start.Goals as goal

pub returns-in_err-name-clause-whole : goal.returns-in_err-name-clause-whole
returns-in_err-name-clause-whole c =
    λ row rest h ends.
    want _ _ _ c.from_residual.result _ c.from_residual.ensures.1 (c.in_err-name.ensures.whole row.name h.sign h.name_read tt)

pub returns-in_err-equals-clause-whole : goal.returns-in_err-equals-clause-whole
returns-in_err-equals-clause-whole c =
    λ row rest h ends.
    let s0 = c.in_ok-name.ensures.whole row.name h.sign h.name_read tt in
    want _ _ _ c.from_residual-in_err-equals.result _ c.from_residual-in_err-equals.ensures.1 (c.in_err-equals.ensures.whole row.equals h.behind (rw s0.1 h.sign_passed) tt)

pub returns-in_err-value-clause-whole : goal.returns-in_err-value-clause-whole
returns-in_err-value-clause-whole c =
    λ row rest h ends.
    let s0 = c.in_ok-name.ensures.whole row.name h.sign h.name_read tt in
    let s1 = c.in_ok-equals.ensures.whole row.equals h.behind (rw s0.1 h.sign_passed) tt in
    want _ _ _ c.from_residual-in_err-value.result _ c.from_residual-in_err-value.ensures.1 (c.in_err-value.ensures.whole row.value rest (rw s1.1 h.value_read) tt)

pub returns-clause-whole : goal.returns-clause-whole
returns-clause-whole c =
    λ row rest h ends.
    let s0 = c.in_ok-name.ensures.whole row.name h.sign h.name_read tt in
    let s1 = c.in_ok-equals.ensures.whole row.equals h.behind (rw s0.1 h.sign_passed) tt in
    let s2 = c.in_ok-value.ensures.whole row.value rest (rw s1.1 h.value_read) tt in
    ((λ i. record { name = s0.0 i; place = sym h.no_place i; equals = s1.0 i; value = s2.0 i }), s2.1)
