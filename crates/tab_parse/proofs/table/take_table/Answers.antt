use Rattle.tab_parse.proofs.Exits.{want_made}
use Rattle.tab_parse.specs.Placed.{heading_of, views_of, effects_of}
use Rattle.tab_parse.proofs.TableEnds.{state_no_role, end_front, table_from}
use Rattle.tab_parse.proofs.table.take_table.Goals as goal

pub returns-in_err-heading-clause-whole : goal.returns-in_err-heading-clause-whole
returns-in_err-heading-clause-whole c =
    λ T h.
    want_made _ _ c.from_residual.result _ c.from_residual.ensures.1 (c.in_err-heading.ensures.whole (heading_of T) h.word_state h.headed (state_no_role h.viewed.state_passed))

pub returns-in_err-views-clause-whole : goal.returns-in_err-views-clause-whole
returns-in_err-views-clause-whole c =
    λ T h.
    let s0 = c.in_ok-heading.ensures.whole (heading_of T) h.word_state h.headed (state_no_role h.viewed.state_passed) in
    want_made _ _ c.from_residual-in_err-views.result _ c.from_residual-in_err-views.ensures.1 (c.in_err-views.ensures.whole (views_of T) h.word_start (rw s0.1 h.viewed) tt)

pub returns-in_err-effects-clause-whole : goal.returns-in_err-effects-clause-whole
returns-in_err-effects-clause-whole c =
    λ T h.
    let s0 = c.in_ok-heading.ensures.whole (heading_of T) h.word_state h.headed (state_no_role h.viewed.state_passed) in
    let s1 = c.in_ok-views.ensures.whole (views_of T) h.word_start (rw s0.1 h.viewed) tt in
    want_made _ _ c.from_residual-in_err-effects.result _ c.from_residual-in_err-effects.ensures.1 (c.in_err-effects.ensures.whole (effects_of T) h.word_end (rw s1.1 h.effected) (end_front h.ending.end_passed))

pub returns-in_err-ends-clause-whole : goal.returns-in_err-ends-clause-whole
returns-in_err-ends-clause-whole c =
    λ T h.
    let s0 = c.in_ok-heading.ensures.whole (heading_of T) h.word_state h.headed (state_no_role h.viewed.state_passed) in
    let s1 = c.in_ok-views.ensures.whole (views_of T) h.word_start (rw s0.1 h.viewed) tt in
    let s2 = c.in_ok-effects.ensures.whole (effects_of T) h.word_end (rw s1.1 h.effected) (end_front h.ending.end_passed) in
    want_made _ _ c.from_residual-in_err-ends.result _ c.from_residual-in_err-ends.ensures.1 (c.in_err-ends.ensures.whole T.ends (rw s2.1 h.ending))

pub returns-clause-whole : goal.returns-clause-whole
returns-clause-whole c =
    λ T h.
    let s0 = c.in_ok-heading.ensures.whole (heading_of T) h.word_state h.headed (state_no_role h.viewed.state_passed) in
    let s1 = c.in_ok-views.ensures.whole (views_of T) h.word_start (rw s0.1 h.viewed) tt in
    let s2 = c.in_ok-effects.ensures.whole (effects_of T) h.word_end (rw s1.1 h.effected) (end_front h.ending.end_passed) in
    let s3 = c.in_ok-ends.ensures.whole T.ends (rw s2.1 h.ending) in
    (λ i. table_from (s0.0 i) (s1.0 i) (s2.0 i) (s3 i))

pub returns-clause-ok : goal.returns-clause-ok
returns-clause-ok c = record {
  word_state = c.in_ok-heading.behind;
  word_start = c.in_ok-views.behind;
  word_end = c.in_ok-effects.behind;
  headed = c.in_ok-heading.ensures.ok;
  viewed = c.in_ok-views.ensures.ok;
  effected = c.in_ok-effects.ensures.ok;
  ending = c.in_ok-ends.ensures.ok;
}
