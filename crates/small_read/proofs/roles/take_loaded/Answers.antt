use Rattle.small_read.proofs.roles.take_loaded.Goals as goal

pub returns-in_err-behind_word-clause-whole : goal.returns-in_err-behind_word-clause-whole
returns-in_err-behind_word-clause-whole c = λ word rest h. absurd (c.in_err-behind_word.ensures.whole h.port h.word_passed)

pub returns-in_err-behind_semicolon-clause-whole : goal.returns-in_err-behind_semicolon-clause-whole
returns-in_err-behind_semicolon-clause-whole c =
    λ word rest h.
    let first = c.in_ok-behind_word.ensures.whole h.port h.word_passed in
    let second = c.in_ok-port.ensures.whole word h.ended (rw first h.port_read) in
    absurd (c.in_err-behind_semicolon.ensures.whole rest (rw second.1 h.ended_passed))
