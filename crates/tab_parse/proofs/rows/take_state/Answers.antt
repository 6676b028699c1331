use Rattle.tab_parse.proofs.Exits.{want}
use Rattle.tab_parse.proofs.rows.take_state.Goals as goal

pub returns-in_err-name-clause-whole : goal.returns-in_err-name-clause-whole
returns-in_err-name-clause-whole c =
    λ row rest h ends.
    want _ _ _ c.from_residual.result _ c.from_residual.ensures.1 (c.in_err-name.ensures.whole row.name h.colon h.name_read tt)

pub returns-in_err-behind_colon-clause-whole : goal.returns-in_err-behind_colon-clause-whole
returns-in_err-behind_colon-clause-whole c =
    λ row rest h ends.
    let s0 = c.in_ok-name.ensures.whole row.name h.colon h.name_read tt in
    absurd (c.in_err-behind_colon.ensures.whole h.behind (rw s0.1 h.colon_passed))

pub returns-in_err-shape-clause-whole : goal.returns-in_err-shape-clause-whole
returns-in_err-shape-clause-whole c =
    λ row rest h ends.
    let s0 = c.in_ok-name.ensures.whole row.name h.colon h.name_read tt in
    let s1 = c.in_ok-behind_colon.ensures.whole h.behind (rw s0.1 h.colon_passed) in
    want _ _ _ c.from_residual-in_err-shape.result _ c.from_residual-in_err-shape.ensures.1 (c.in_err-shape.ensures.whole row.shape h.word (rw s1 h.shape_read) tt)

pub returns-in_err-behind_word-clause-whole : goal.returns-in_err-behind_word-clause-whole
returns-in_err-behind_word-clause-whole c =
    λ row rest h ends.
    let s0 = c.in_ok-name.ensures.whole row.name h.colon h.name_read tt in
    let s1 = c.in_ok-behind_colon.ensures.whole h.behind (rw s0.1 h.colon_passed) in
    let s2 = c.in_ok-shape.ensures.whole row.shape h.word (rw s1 h.shape_read) tt in
    absurd (c.in_err-behind_word.ensures.whole h.first (rw s2.1 h.word_passed))

pub returns-in_err-shown-clause-whole : goal.returns-in_err-shown-clause-whole
returns-in_err-shown-clause-whole c =
    λ row rest h ends.
    let s0 = c.in_ok-name.ensures.whole row.name h.colon h.name_read tt in
    let s1 = c.in_ok-behind_colon.ensures.whole h.behind (rw s0.1 h.colon_passed) in
    let s2 = c.in_ok-shape.ensures.whole row.shape h.word (rw s1 h.shape_read) tt in
    let s3 = c.in_ok-behind_word.ensures.whole h.first (rw s2.1 h.word_passed) in
    want _ _ _ c.from_residual-in_err-shown.result _ c.from_residual-in_err-shown.ensures.1 (c.in_err-shown.ensures.whole row.shown rest (rw s3 h.shown_read) tt)

pub returns-clause-whole : goal.returns-clause-whole
returns-clause-whole c =
    λ row rest h ends.
    let s0 = c.in_ok-name.ensures.whole row.name h.colon h.name_read tt in
    let s1 = c.in_ok-behind_colon.ensures.whole h.behind (rw s0.1 h.colon_passed) in
    let s2 = c.in_ok-shape.ensures.whole row.shape h.word (rw s1 h.shape_read) tt in
    let s3 = c.in_ok-behind_word.ensures.whole h.first (rw s2.1 h.word_passed) in
    let s4 = c.in_ok-shown.ensures.whole row.shown rest (rw s3 h.shown_read) tt in
    ((λ i. record { name = s0.0 i; shape = s2.0 i; shown = s4.0 i }), s4.1)
