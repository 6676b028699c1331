use Rattle.tab_parse.proofs.Exits.{want}
use Rattle.tab_parse.proofs.sets.take_next_set.Goals as goal

pub returns-in_err-behind-clause-whole : goal.returns-in_err-behind-clause-whole
returns-in_err-behind-clause-whole c =
    λ row rest h ends.
    absurd (c.in_err-behind.ensures.whole h.first h.comma_passed)

pub returns-in_err-row-clause-whole : goal.returns-in_err-row-clause-whole
returns-in_err-row-clause-whole c =
    λ row rest h ends.
    let s0 = c.in_ok-behind.ensures.whole h.first h.comma_passed in
    want _ _ _ c.from_residual-in_err-row.result _ c.from_residual-in_err-row.ensures.1 (c.in_err-row.ensures.whole row rest (rw s0 h.row_read) ends)

pub returns-clause-whole : goal.returns-clause-whole
returns-clause-whole c =
    λ row rest h ends.
    let s0 = c.in_ok-behind.ensures.whole h.first h.comma_passed in
    let s1 = c.in_ok-row.ensures.whole row rest (rw s0 h.row_read) ends in
    s1
