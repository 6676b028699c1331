use Rattle.small_read.proofs.Exits.{want_name}
use Rattle.std.proofs.Common.{[]}
use Rattle.small_read.proofs.reader.take_ending.Goals as goal

pub returns-in_err-behind_end-clause-whole : goal.returns-in_err-behind_end-clause-whole
returns-in_err-behind_end-clause-whole c =
    λ name h.
    absurd (c.in_err-behind_end.ensures.whole h.ends h.end_passed)

pub returns-in_err-name-clause-whole : goal.returns-in_err-name-clause-whole
returns-in_err-name-clause-whole c =
    λ name h.
    let word_end = c.in_ok-behind_end.ensures.whole h.ends h.end_passed in
    want_name _ c.from_residual-in_err-name.result _ c.from_residual-in_err-name.ensures.1
    (c.in_err-name.ensures.whole name h.dot (rw word_end h.ends_read))

pub returns-in_err-behind-clause-whole : goal.returns-in_err-behind-clause-whole
returns-in_err-behind-clause-whole c =
    λ name h.
    let word_end = c.in_ok-behind_end.ensures.whole h.ends h.end_passed in
    let ends = c.in_ok-name.ensures.whole name h.dot (rw word_end h.ends_read) in
    absurd (c.in_err-behind.ensures.whole [] (rw ends.1 h.dot_passed))
