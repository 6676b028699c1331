use Rattle.small_read.proofs.Exits.{want}
use Rattle.small_read.proofs.rows.take_set.Goals as goal

pub returns-in_err-name-clause-whole : goal.returns-in_err-name-clause-whole
returns-in_err-name-clause-whole c =
    λ row rest h.
    want _ _ _ c.from_residual.result _ c.from_residual.ensures.1 (c.in_err-name.ensures.whole row.name h.sign h.name_read)

pub returns-in_err-behind_assign-clause-whole : goal.returns-in_err-behind_assign-clause-whole
returns-in_err-behind_assign-clause-whole c =
    λ row rest h.
    let name = c.in_ok-name.ensures.whole row.name h.sign h.name_read in
    absurd (c.in_err-behind_assign.ensures.whole h.behind (rw name.1 h.sign_passed))

pub returns-in_err-value-clause-whole : goal.returns-in_err-value-clause-whole
returns-in_err-value-clause-whole c =
    λ row rest h.
    let name = c.in_ok-name.ensures.whole row.name h.sign h.name_read in
    let sign = c.in_ok-behind_assign.ensures.whole h.behind (rw name.1 h.sign_passed) in
    want _ _ _ c.from_residual-in_err-value.result _ c.from_residual-in_err-value.ensures.1
    (c.in_err-value.ensures.whole row.value rest (rw sign h.value_read))

pub returns-clause-whole : goal.returns-clause-whole
returns-clause-whole c =
    λ row rest h.
    let name = c.in_ok-name.ensures.whole row.name h.sign h.name_read in
    let sign = c.in_ok-behind_assign.ensures.whole h.behind (rw name.1 h.sign_passed) in
    let value = c.in_ok-value.ensures.whole row.value rest (rw sign h.value_read) in
    ((λ i. record { name = name.0 i; value = value.0 i }), value.1)
