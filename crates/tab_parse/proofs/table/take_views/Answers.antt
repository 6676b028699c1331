use Rattle.tab_parse.proofs.Exits.{want}
use Rattle.std.proofs.Common.{map, ap, ◌∙◌}
use Rattle.tab_parse.specs.Placed.{state_at, let_at}
use Rattle.tab_parse.proofs.TableEnds.{fields_no_name, invariant_ends}
use Rattle.tab_parse.proofs.table.take_views.Goals as goal

pub returns-in_err-behind-clause-whole : goal.returns-in_err-behind-clause-whole
returns-in_err-behind-clause-whole c =
    λ views rest h ends.
    absurd (c.in_err-behind.ensures.whole h.states h.state_passed)

pub returns-in_err-states-clause-whole : goal.returns-in_err-states-clause-whole
returns-in_err-states-clause-whole c =
    λ views rest h ends.
    let s0 = c.in_ok-behind.ensures.whole h.states h.state_passed in
    want _ _ _ c.from_residual-in_err-states.result _ c.from_residual-in_err-states.ensures.1 (c.in_err-states.ensures.whole views.states h.word_fields (rw s0 h.states_read) (fields_no_name h.fields_read h.invariant_passed))

pub returns-in_err-fields-clause-whole : goal.returns-in_err-fields-clause-whole
returns-in_err-fields-clause-whole c =
    λ views rest h ends.
    let s0 = c.in_ok-behind.ensures.whole h.states h.state_passed in
    let s1 = c.in_ok-states.ensures.whole views.states h.word_fields (rw s0 h.states_read) (fields_no_name h.fields_read h.invariant_passed) in
    want _ _ _ c.from_residual-in_err-fields.result _ c.from_residual-in_err-fields.ensures.1 (c.in_err-fields.ensures.whole views.fields h.word_invariant (rw s1.1 h.fields_read) (invariant_ends h.invariant_passed))

pub returns-in_err-behind-2-clause-whole : goal.returns-in_err-behind-2-clause-whole
returns-in_err-behind-2-clause-whole c =
    λ views rest h ends.
    let s0 = c.in_ok-behind.ensures.whole h.states h.state_passed in
    let s1 = c.in_ok-states.ensures.whole views.states h.word_fields (rw s0 h.states_read) (fields_no_name h.fields_read h.invariant_passed) in
    let s2 = c.in_ok-fields.ensures.whole views.fields h.word_invariant (rw s1.1 h.fields_read) (invariant_ends h.invariant_passed) in
    absurd (c.in_err-behind-2.ensures.whole h.invariant (rw s2.1 h.invariant_passed))

pub returns-in_err-invariant-clause-whole : goal.returns-in_err-invariant-clause-whole
returns-in_err-invariant-clause-whole c =
    λ views rest h ends.
    let s0 = c.in_ok-behind.ensures.whole h.states h.state_passed in
    let s1 = c.in_ok-states.ensures.whole views.states h.word_fields (rw s0 h.states_read) (fields_no_name h.fields_read h.invariant_passed) in
    let s2 = c.in_ok-fields.ensures.whole views.fields h.word_invariant (rw s1.1 h.fields_read) (invariant_ends h.invariant_passed) in
    let s3 = c.in_ok-behind-2.ensures.whole h.invariant (rw s2.1 h.invariant_passed) in
    want _ _ _ c.from_residual-in_err-invariant.result _ c.from_residual-in_err-invariant.ensures.1 (c.in_err-invariant.ensures.whole views.invariant h.word_boundary (rw s3 h.invariant_read) tt)

pub returns-in_err-behind-3-clause-whole : goal.returns-in_err-behind-3-clause-whole
returns-in_err-behind-3-clause-whole c =
    λ views rest h ends.
    let s0 = c.in_ok-behind.ensures.whole h.states h.state_passed in
    let s1 = c.in_ok-states.ensures.whole views.states h.word_fields (rw s0 h.states_read) (fields_no_name h.fields_read h.invariant_passed) in
    let s2 = c.in_ok-fields.ensures.whole views.fields h.word_invariant (rw s1.1 h.fields_read) (invariant_ends h.invariant_passed) in
    let s3 = c.in_ok-behind-2.ensures.whole h.invariant (rw s2.1 h.invariant_passed) in
    let s4 = c.in_ok-invariant.ensures.whole views.invariant h.word_boundary (rw s3 h.invariant_read) tt in
    absurd (c.in_err-behind-3.ensures.whole h.boundary (rw s4.1 h.boundary_passed))

pub returns-in_err-boundary-clause-whole : goal.returns-in_err-boundary-clause-whole
returns-in_err-boundary-clause-whole c =
    λ views rest h ends.
    let s0 = c.in_ok-behind.ensures.whole h.states h.state_passed in
    let s1 = c.in_ok-states.ensures.whole views.states h.word_fields (rw s0 h.states_read) (fields_no_name h.fields_read h.invariant_passed) in
    let s2 = c.in_ok-fields.ensures.whole views.fields h.word_invariant (rw s1.1 h.fields_read) (invariant_ends h.invariant_passed) in
    let s3 = c.in_ok-behind-2.ensures.whole h.invariant (rw s2.1 h.invariant_passed) in
    let s4 = c.in_ok-invariant.ensures.whole views.invariant h.word_boundary (rw s3 h.invariant_read) tt in
    let s5 = c.in_ok-behind-3.ensures.whole h.boundary (rw s4.1 h.boundary_passed) in
    want _ _ _ c.from_residual-in_err-boundary.result _ c.from_residual-in_err-boundary.ensures.1 (c.in_err-boundary.ensures.whole views.boundary rest (rw s5 h.boundary_read) tt)

pub returns-clause-whole : goal.returns-clause-whole
returns-clause-whole c =
    λ views rest h ends.
    let s0 = c.in_ok-behind.ensures.whole h.states h.state_passed in
    let s1 = c.in_ok-states.ensures.whole views.states h.word_fields (rw s0 h.states_read) (fields_no_name h.fields_read h.invariant_passed) in
    let s2 = c.in_ok-fields.ensures.whole views.fields h.word_invariant (rw s1.1 h.fields_read) (invariant_ends h.invariant_passed) in
    let s3 = c.in_ok-behind-2.ensures.whole h.invariant (rw s2.1 h.invariant_passed) in
    let s4 = c.in_ok-invariant.ensures.whole views.invariant h.word_boundary (rw s3 h.invariant_read) tt in
    let s5 = c.in_ok-behind-3.ensures.whole h.boundary (rw s4.1 h.boundary_passed) in
    let s6 = c.in_ok-boundary.ensures.whole views.boundary rest (rw s5 h.boundary_read) tt in
    ((λ i. record { states = (ap (map state_at) c.of.ensures ∙ s1.0) i; fields = (ap (map let_at) c.of-2.ensures ∙ s2.0) i; invariant = s4.0 i; boundary = s6.0 i }), s6.1)

pub returns-clause-ok : goal.returns-clause-ok
returns-clause-ok c = record {
  states = c.in_ok-behind.behind;
  word_fields = c.in_ok-states.behind;
  word_invariant = c.in_ok-fields.behind;
  invariant = c.in_ok-behind-2.behind;
  word_boundary = c.in_ok-invariant.behind;
  boundary = c.in_ok-behind-3.behind;
  state_passed = c.in_ok-behind.ensures.ok;
  states_read = rw c.of.ensures c.in_ok-states.ensures.ok;
  fields_read = rw c.of-2.ensures c.in_ok-fields.ensures.ok;
  invariant_passed = c.in_ok-behind-2.ensures.ok;
  invariant_read = c.in_ok-invariant.ensures.ok;
  boundary_passed = c.in_ok-behind-3.ensures.ok;
  boundary_read = c.in_ok-boundary.ensures.ok;
}
