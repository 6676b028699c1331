use Rattle.tab_parse.proofs.Exits.{want}
use Rattle.tab_parse.proofs.Fronts.{semicolon_stops}
use Rattle.tab_parse.proofs.sets.take_set_line.Goals as goal

pub returns-in_err-behind-clause-whole : goal.returns-in_err-behind-clause-whole
returns-in_err-behind-clause-whole c =
    λ row rest h ends.
    absurd (c.in_err-behind.ensures.whole h.first h.word_passed)

pub returns-in_err-row-clause-whole : goal.returns-in_err-row-clause-whole
returns-in_err-row-clause-whole c =
    λ row rest h ends.
    let s0 = c.in_ok-behind.ensures.whole h.first h.word_passed in
    want _ _ _ c.from_residual-in_err-row.result _ c.from_residual-in_err-row.ensures.1 (c.in_err-row.ensures.whole row h.ended (rw s0 h.row_read) (semicolon_stops h.ended_passed))

pub returns-in_err-behind_semicolon-clause-whole : goal.returns-in_err-behind_semicolon-clause-whole
returns-in_err-behind_semicolon-clause-whole c =
    λ row rest h ends.
    let s0 = c.in_ok-behind.ensures.whole h.first h.word_passed in
    let s1 = c.in_ok-row.ensures.whole row h.ended (rw s0 h.row_read) (semicolon_stops h.ended_passed) in
    absurd (c.in_err-behind_semicolon.ensures.whole rest (rw s1.1 h.ended_passed))

pub returns-clause-whole : goal.returns-clause-whole
returns-clause-whole c =
    λ row rest h ends.
    let s0 = c.in_ok-behind.ensures.whole h.first h.word_passed in
    let s1 = c.in_ok-row.ensures.whole row h.ended (rw s0 h.row_read) (semicolon_stops h.ended_passed) in
    let s2 = c.in_ok-behind_semicolon.ensures.whole rest (rw s1.1 h.ended_passed) in
    (s1.0, s2)
