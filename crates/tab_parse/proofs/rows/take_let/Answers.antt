use Rattle.tab_parse.proofs.Exits.{want}
use Rattle.tab_parse.proofs.rows.take_let.Goals as goal

pub returns-in_err-name-clause-whole : goal.returns-in_err-name-clause-whole
returns-in_err-name-clause-whole c =
    λ row rest h ends.
    want _ _ _ c.from_residual.result _ c.from_residual.ensures.1 (c.in_err-name.ensures.whole row.name h.word h.name_read tt)

pub returns-in_err-behind_word-clause-whole : goal.returns-in_err-behind_word-clause-whole
returns-in_err-behind_word-clause-whole c =
    λ row rest h ends.
    let s0 = c.in_ok-name.ensures.whole row.name h.word h.name_read tt in
    absurd (c.in_err-behind_word.ensures.whole h.first (rw s0.1 h.word_passed))

pub returns-in_err-value-clause-whole : goal.returns-in_err-value-clause-whole
returns-in_err-value-clause-whole c =
    λ row rest h ends.
    let s0 = c.in_ok-name.ensures.whole row.name h.word h.name_read tt in
    let s1 = c.in_ok-behind_word.ensures.whole h.first (rw s0.1 h.word_passed) in
    want _ _ _ c.from_residual-in_err-value.result _ c.from_residual-in_err-value.ensures.1 (c.in_err-value.ensures.whole row.value rest (rw s1 h.value_read) tt)

pub returns-clause-whole : goal.returns-clause-whole
returns-clause-whole c =
    λ row rest h ends.
    let s0 = c.in_ok-name.ensures.whole row.name h.word h.name_read tt in
    let s1 = c.in_ok-behind_word.ensures.whole h.first (rw s0.1 h.word_passed) in
    let s2 = c.in_ok-value.ensures.whole row.value rest (rw s1 h.value_read) tt in
    ((λ i. record { name = s0.0 i; value = s2.0 i }), s2.1)
