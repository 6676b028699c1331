use Rattle.small_read.proofs.Chains.{linked_no_load}
use Rattle.small_read.proofs.Exits.{want}
use Rattle.small_read.proofs.classes.take_phase.Goals as goal

pub returns-in_err-behind_word-clause-whole : goal.returns-in_err-behind_word-clause-whole
returns-in_err-behind_word-clause-whole c = λ phase rest h. absurd (c.in_err-behind_word.ensures.whole h.first h.word_passed)

pub returns-in_err-link-clause-whole : goal.returns-in_err-link-clause-whole
returns-in_err-link-clause-whole c =
    λ phase rest h.
    let s0 = c.in_ok-behind_word.ensures.whole h.first h.word_passed in
    let s1 = c.take_loads-loads.ensures.whole phase.loads h.behind (rw s0 h.loads_read) (linked_no_load h.link_read) in
    want _ _ _ c.from_residual-in_err-link.result _ c.from_residual-in_err-link.ensures.1
    (c.in_err-link.ensures.whole phase.link rest (rw s1.1 h.link_read))

pub returns-clause-whole : goal.returns-clause-whole
returns-clause-whole c =
    λ phase rest h.
    let s0 = c.in_ok-behind_word.ensures.whole h.first h.word_passed in
    let s1 = c.take_loads-loads.ensures.whole phase.loads h.behind (rw s0 h.loads_read) (linked_no_load h.link_read) in
    let s2 = c.in_ok-link.ensures.whole phase.link rest (rw s1.1 h.link_read) in
    ((λ i. record { loads = s1.0 i; link = s2.0 i }), s2.1)
