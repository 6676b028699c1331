use Rattle.small_read.proofs.Exits.{want}
use Rattle.small_read.proofs.roles.take_reset.Goals as goal

pub returns-in_err-behind_word-clause-whole : goal.returns-in_err-behind_word-clause-whole
returns-in_err-behind_word-clause-whole c =
    λ active rest h.
    absurd (c.in_err-behind_word.ensures.whole h.port h.word_passed)

pub returns-in_err-port-clause-whole : goal.returns-in_err-port-clause-whole
returns-in_err-port-clause-whole c =
    λ active rest h.
    let word = c.in_ok-behind_word.ensures.whole h.port h.word_passed in
    want _ _ _ c.from_residual-in_err-port.result _ c.from_residual-in_err-port.ensures.1
    (c.in_err-port.ensures.whole active.port h.sign (rw word h.port_read))

pub returns-in_err-behind_equal-clause-whole : goal.returns-in_err-behind_equal-clause-whole
returns-in_err-behind_equal-clause-whole c =
    λ active rest h.
    let word = c.in_ok-behind_word.ensures.whole h.port h.word_passed in
    let port = c.in_ok-port.ensures.whole active.port h.sign (rw word h.port_read) in
    absurd (c.in_err-behind_equal.ensures.whole h.behind (rw port.1 h.sign_passed))

pub returns-in_err-value-clause-whole : goal.returns-in_err-value-clause-whole
returns-in_err-value-clause-whole c =
    λ active rest h.
    let word = c.in_ok-behind_word.ensures.whole h.port h.word_passed in
    let port = c.in_ok-port.ensures.whole active.port h.sign (rw word h.port_read) in
    let sign = c.in_ok-behind_equal.ensures.whole h.behind (rw port.1 h.sign_passed) in
    want _ _ _ c.from_residual-in_err-value.result _ c.from_residual-in_err-value.ensures.1
    (c.in_err-value.ensures.whole active.value h.ended (rw sign h.value_read))

pub returns-in_err-behind-clause-whole : goal.returns-in_err-behind-clause-whole
returns-in_err-behind-clause-whole c =
    λ active rest h.
    let word = c.in_ok-behind_word.ensures.whole h.port h.word_passed in
    let port = c.in_ok-port.ensures.whole active.port h.sign (rw word h.port_read) in
    let sign = c.in_ok-behind_equal.ensures.whole h.behind (rw port.1 h.sign_passed) in
    let value = c.in_ok-value.ensures.whole active.value h.ended (rw sign h.value_read) in
    absurd (c.in_err-behind.ensures.whole rest (rw value.1 h.ended_passed))
