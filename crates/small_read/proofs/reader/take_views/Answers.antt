use Rattle.small_read.proofs.Exits.{want}
use Rattle.small_read.proofs.Fronts.{word_no_name}
use Rattle.small_read.proofs.reader.take_views.Goals as goal

pub returns-in_err-behind_word-clause-whole : goal.returns-in_err-behind_word-clause-whole
returns-in_err-behind_word-clause-whole c =
    λ views rest h.
    absurd (c.in_err-behind_word.ensures.whole h.first h.state_passed)

pub returns-in_err-states-clause-whole : goal.returns-in_err-states-clause-whole
returns-in_err-states-clause-whole c =
    λ views rest h.
    let word_state = c.in_ok-behind_word.ensures.whole h.first h.state_passed in
    want _ _ _ c.from_residual-in_err-states.result _ c.from_residual-in_err-states.ensures.1
    (c.in_err-states.ensures.whole views.states h.word_invariant (rw word_state h.states_read) (word_no_name h.invariant_passed))

pub returns-in_err-behind_word-2-clause-whole : goal.returns-in_err-behind_word-2-clause-whole
returns-in_err-behind_word-2-clause-whole c =
    λ views rest h.
    let word_state = c.in_ok-behind_word.ensures.whole h.first h.state_passed in
    let states = c.in_ok-states.ensures.whole views.states h.word_invariant (rw word_state h.states_read) (word_no_name h.invariant_passed) in
    absurd (c.in_err-behind_word-2.ensures.whole h.second (rw states.1 h.invariant_passed))

pub returns-in_err-invariant-clause-whole : goal.returns-in_err-invariant-clause-whole
returns-in_err-invariant-clause-whole c =
    λ views rest h.
    let word_state = c.in_ok-behind_word.ensures.whole h.first h.state_passed in
    let states = c.in_ok-states.ensures.whole views.states h.word_invariant (rw word_state h.states_read) (word_no_name h.invariant_passed) in
    let invariant = c.in_ok-behind_word-2.ensures.whole h.second (rw states.1 h.invariant_passed) in
    want _ _ _ c.from_residual-in_err-invariant.result _ c.from_residual-in_err-invariant.ensures.1
    (c.in_err-invariant.ensures.whole views.invariant h.word_boundary (rw invariant h.invariant_read))

pub returns-in_err-behind_word-3-clause-whole : goal.returns-in_err-behind_word-3-clause-whole
returns-in_err-behind_word-3-clause-whole c =
    λ views rest h.
    let word_state = c.in_ok-behind_word.ensures.whole h.first h.state_passed in
    let states = c.in_ok-states.ensures.whole views.states h.word_invariant (rw word_state h.states_read) (word_no_name h.invariant_passed) in
    let invariant = c.in_ok-behind_word-2.ensures.whole h.second (rw states.1 h.invariant_passed) in
    let invariant = c.in_ok-invariant.ensures.whole views.invariant h.word_boundary (rw invariant h.invariant_read) in
    absurd (c.in_err-behind_word-3.ensures.whole h.third (rw invariant.1 h.boundary_passed))

pub returns-in_err-boundary-clause-whole : goal.returns-in_err-boundary-clause-whole
returns-in_err-boundary-clause-whole c =
    λ views rest h.
    let word_state = c.in_ok-behind_word.ensures.whole h.first h.state_passed in
    let states = c.in_ok-states.ensures.whole views.states h.word_invariant (rw word_state h.states_read) (word_no_name h.invariant_passed) in
    let invariant = c.in_ok-behind_word-2.ensures.whole h.second (rw states.1 h.invariant_passed) in
    let invariant = c.in_ok-invariant.ensures.whole views.invariant h.word_boundary (rw invariant h.invariant_read) in
    let boundary = c.in_ok-behind_word-3.ensures.whole h.third (rw invariant.1 h.boundary_passed) in
    want _ _ _ c.from_residual-in_err-boundary.result _ c.from_residual-in_err-boundary.ensures.1
    (c.in_err-boundary.ensures.whole views.boundary rest (rw boundary h.boundary_read))

pub returns-clause-whole : goal.returns-clause-whole
returns-clause-whole c =
    λ views rest h.
    let word_state = c.in_ok-behind_word.ensures.whole h.first h.state_passed in
    let states = c.in_ok-states.ensures.whole views.states h.word_invariant (rw word_state h.states_read) (word_no_name h.invariant_passed) in
    let invariant = c.in_ok-behind_word-2.ensures.whole h.second (rw states.1 h.invariant_passed) in
    let invariant = c.in_ok-invariant.ensures.whole views.invariant h.word_boundary (rw invariant h.invariant_read) in
    let boundary = c.in_ok-behind_word-3.ensures.whole h.third (rw invariant.1 h.boundary_passed) in
    let boundary = c.in_ok-boundary.ensures.whole views.boundary rest (rw boundary h.boundary_read) in
    ((λ i. record { states = states.0 i; invariant = invariant.0 i; boundary = boundary.0 i }), boundary.1)

pub returns-clause-ok : goal.returns-clause-ok
returns-clause-ok c = record {
  first = c.in_ok-behind_word.field-0;
  word_invariant = c.in_ok-states.behind;
  second = c.in_ok-behind_word-2.field-0;
  word_boundary = c.in_ok-invariant.behind;
  third = c.in_ok-behind_word-3.field-0;
  state_passed = c.in_ok-behind_word.ensures.ok;
  states_read = c.in_ok-states.ensures.ok;
  invariant_passed = c.in_ok-behind_word-2.ensures.ok;
  invariant_read = c.in_ok-invariant.ensures.ok;
  boundary_passed = c.in_ok-behind_word-3.ensures.ok;
  boundary_read = c.in_ok-boundary.ensures.ok;
}
