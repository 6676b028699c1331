use Rattle.tab_parse.proofs.Exits.{want}
use Rattle.std.proofs.Common.{sym, ap, ◌∙◌}
use Rattle.lola_parse.specs.Grammar.{place_of}
use Rattle.tab_parse.proofs.PhaseEnds.{word_byte}
use Rattle.tab_parse.proofs.phases.take_turns_behind.Goals as goal

pub returns-in_err-times-clause-whole : goal.returns-in_err-times-clause-whole
returns-in_err-times-clause-whole c =
    λ row rest h ends.
    want _ _ _ c.from_residual.result _ c.from_residual.ensures.1 (c.in_err-times.ensures.whole row.times h.word_of h.times_read tt)

pub returns-in_err-behind-clause-whole : goal.returns-in_err-behind-clause-whole
returns-in_err-behind-clause-whole c =
    λ row rest h ends.
    let s0 = c.in_ok-times.ensures.whole row.times h.word_of h.times_read tt in
    absurd (c.in_err-behind.ensures.whole h.type (rw s0.1 h.of_passed))

pub returns-in_err-shape-clause-whole : goal.returns-in_err-shape-clause-whole
returns-in_err-shape-clause-whole c =
    λ row rest h ends.
    let s0 = c.in_ok-times.ensures.whole row.times h.word_of h.times_read tt in
    let s1 = c.in_ok-behind.ensures.whole h.type (rw s0.1 h.of_passed) in
    want _ _ _ c.from_residual-in_err-shape.result _ c.from_residual-in_err-shape.ensures.1 (c.in_err-shape.ensures.whole row.shape h.word_from (rw s1 h.shape_read) tt)

pub returns-in_err-behind_word-clause-whole : goal.returns-in_err-behind_word-clause-whole
returns-in_err-behind_word-clause-whole c =
    λ row rest h ends.
    let s0 = c.in_ok-times.ensures.whole row.times h.word_of h.times_read tt in
    let s1 = c.in_ok-behind.ensures.whole h.type (rw s0.1 h.of_passed) in
    let s2 = c.in_ok-shape.ensures.whole row.shape h.word_from (rw s1 h.shape_read) tt in
    absurd (c.in_err-behind_word.ensures.whole h.first (rw s2.1 h.from_passed))

pub returns-in_err-first-clause-whole : goal.returns-in_err-first-clause-whole
returns-in_err-first-clause-whole c =
    λ row rest h ends.
    let s0 = c.in_ok-times.ensures.whole row.times h.word_of h.times_read tt in
    let s1 = c.in_ok-behind.ensures.whole h.type (rw s0.1 h.of_passed) in
    let s2 = c.in_ok-shape.ensures.whole row.shape h.word_from (rw s1 h.shape_read) tt in
    let s3 = c.in_ok-behind_word.ensures.whole h.first (rw s2.1 h.from_passed) in
    want _ _ _ c.from_residual-in_err-first.result _ c.from_residual-in_err-first.ensures.1 (c.in_err-first.ensures.whole row.first h.word_step (rw s3 h.first_read) (word_byte h.step_passed).stops)

pub returns-in_err-behind_word-2-clause-whole : goal.returns-in_err-behind_word-2-clause-whole
returns-in_err-behind_word-2-clause-whole c =
    λ row rest h ends.
    let s0 = c.in_ok-times.ensures.whole row.times h.word_of h.times_read tt in
    let s1 = c.in_ok-behind.ensures.whole h.type (rw s0.1 h.of_passed) in
    let s2 = c.in_ok-shape.ensures.whole row.shape h.word_from (rw s1 h.shape_read) tt in
    let s3 = c.in_ok-behind_word.ensures.whole h.first (rw s2.1 h.from_passed) in
    let s4 = c.in_ok-first.ensures.whole row.first h.word_step (rw s3 h.first_read) (word_byte h.step_passed).stops in
    absurd (c.in_err-behind_word-2.ensures.whole h.second (rw s4.1 h.step_passed))

pub returns-in_err-step-clause-whole : goal.returns-in_err-step-clause-whole
returns-in_err-step-clause-whole c =
    λ row rest h ends.
    let s0 = c.in_ok-times.ensures.whole row.times h.word_of h.times_read tt in
    let s1 = c.in_ok-behind.ensures.whole h.type (rw s0.1 h.of_passed) in
    let s2 = c.in_ok-shape.ensures.whole row.shape h.word_from (rw s1 h.shape_read) tt in
    let s3 = c.in_ok-behind_word.ensures.whole h.first (rw s2.1 h.from_passed) in
    let s4 = c.in_ok-first.ensures.whole row.first h.word_step (rw s3 h.first_read) (word_byte h.step_passed).stops in
    let s5 = c.in_ok-behind_word-2.ensures.whole h.second (rw s4.1 h.step_passed) in
    want _ _ _ c.from_residual-in_err-step.result _ c.from_residual-in_err-step.ensures.1 (c.in_err-step.ensures.whole row.step rest (rw s5 h.step_read) ends)

pub returns-clause-whole : goal.returns-clause-whole
returns-clause-whole c =
    λ row rest h ends.
    let s0 = c.in_ok-times.ensures.whole row.times h.word_of h.times_read tt in
    let s1 = c.in_ok-behind.ensures.whole h.type (rw s0.1 h.of_passed) in
    let s2 = c.in_ok-shape.ensures.whole row.shape h.word_from (rw s1 h.shape_read) tt in
    let s3 = c.in_ok-behind_word.ensures.whole h.first (rw s2.1 h.from_passed) in
    let s4 = c.in_ok-first.ensures.whole row.first h.word_step (rw s3 h.first_read) (word_byte h.step_passed).stops in
    let s5 = c.in_ok-behind_word-2.ensures.whole h.second (rw s4.1 h.step_passed) in
    let s6 = c.in_ok-step.ensures.whole row.step rest (rw s5 h.step_read) ends in
    ((λ i. record { times = s0.0 i; shape = s2.0 i; shape_at = (c.at-shape_at.ensures ∙ (ap place_of s1 ∙ sym h.shape_place)) i; first = s4.0 i; step = s6.0 i }), s6.1)

pub returns-clause-ok : goal.returns-clause-ok
returns-clause-ok c = record {
  word_of = c.in_ok-times.behind;
  type = c.in_ok-behind.behind;
  word_from = c.in_ok-shape.behind;
  first = c.in_ok-behind_word.field-0;
  word_step = c.in_ok-first.behind;
  second = c.in_ok-behind_word-2.field-0;
  times_read = c.in_ok-times.ensures.ok;
  of_passed = c.in_ok-behind.ensures.ok;
  shape_read = c.in_ok-shape.ensures.ok;
  shape_place = c.at-shape_at.ensures;
  from_passed = c.in_ok-behind_word.ensures.ok;
  first_read = c.in_ok-first.ensures.ok;
  step_passed = c.in_ok-behind_word-2.ensures.ok;
  step_read = c.in_ok-step.ensures.ok;
}
