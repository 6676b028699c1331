use Rattle.small_read.proofs.Exits.{want}
use Rattle.small_read.proofs.Chains.{classes_no_name}
use Rattle.small_read.proofs.reader.take_effects.Goals as goal

pub returns-in_err-behind_word-clause-whole : goal.returns-in_err-behind_word-clause-whole
returns-in_err-behind_word-clause-whole c =
    λ effects rest h lacks.
    absurd (c.in_err-behind_word.ensures.whole h.first h.start_passed)

pub returns-in_err-starts-clause-whole : goal.returns-in_err-starts-clause-whole
returns-in_err-starts-clause-whole c =
    λ effects rest h lacks.
    let word_start = c.in_ok-behind_word.ensures.whole h.first h.start_passed in
    want _ _ _ c.from_residual-in_err-starts.result _ c.from_residual-in_err-starts.ensures.1
    (c.in_err-starts.ensures.whole effects.starts h.behind (rw word_start h.starts_read) (classes_no_name h.classes_read lacks))

pub returns-in_err-classes-clause-whole : goal.returns-in_err-classes-clause-whole
returns-in_err-classes-clause-whole c =
    λ effects rest h lacks.
    let word_start = c.in_ok-behind_word.ensures.whole h.first h.start_passed in
    let starts = c.in_ok-starts.ensures.whole effects.starts h.behind (rw word_start h.starts_read) (classes_no_name h.classes_read lacks) in
    want _ _ _ c.from_residual-in_err-classes.result _ c.from_residual-in_err-classes.ensures.1
    (c.in_err-classes.ensures.whole effects.classes rest (rw starts.1 h.classes_read) lacks)

pub returns-clause-whole : goal.returns-clause-whole
returns-clause-whole c =
    λ effects rest h lacks.
    let word_start = c.in_ok-behind_word.ensures.whole h.first h.start_passed in
    let starts = c.in_ok-starts.ensures.whole effects.starts h.behind (rw word_start h.starts_read) (classes_no_name h.classes_read lacks) in
    let classes = c.in_ok-classes.ensures.whole effects.classes rest (rw starts.1 h.classes_read) lacks in
    ((λ i. record { starts = starts.0 i; classes = classes.0 i }), classes.1)
