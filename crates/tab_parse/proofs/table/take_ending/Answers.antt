use Rattle.tab_parse.proofs.Exits.{want_made}
use Rattle.std.proofs.Common.{[]}
use Rattle.tab_parse.proofs.table.take_ending.Goals as goal

pub returns-in_err-behind-clause-whole : goal.returns-in_err-behind-clause-whole
returns-in_err-behind-clause-whole c =
    λ name h.
    absurd (c.in_err-behind.ensures.whole h.ends h.end_passed)

pub returns-in_err-name-clause-whole : goal.returns-in_err-name-clause-whole
returns-in_err-name-clause-whole c =
    λ name h.
    let s0 = c.in_ok-behind.ensures.whole h.ends h.end_passed in
    want_made _ _ c.from_residual-in_err-name.result _ c.from_residual-in_err-name.ensures.1 (c.in_err-name.ensures.whole name h.dot (rw s0 h.ends_read) tt)

pub returns-in_err-behind-2-clause-whole : goal.returns-in_err-behind-2-clause-whole
returns-in_err-behind-2-clause-whole c =
    λ name h.
    let s0 = c.in_ok-behind.ensures.whole h.ends h.end_passed in
    let s1 = c.in_ok-name.ensures.whole name h.dot (rw s0 h.ends_read) tt in
    absurd (c.in_err-behind-2.ensures.whole [] (rw s1.1 h.dot_passed))
