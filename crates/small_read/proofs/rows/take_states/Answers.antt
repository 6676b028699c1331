use Rattle.std.proofs.Common.{refl, subst, arith}
use Rattle.lola_bits.proofs.Places.{map_more}
use Rattle.small_tree.specs.Table.{state_tree}
use Rattle.small_read.specs.Grammar.{MoreStates, no_state, one_state}
use Rattle.small_read.proofs.Chains.{states_next, states_end, next_on}
use Rattle.small_read.proofs.Exits.{want}
use Rattle.small_read.proofs.rows.take_states.Goals as goal

pub states-preserved : goal.states-preserved
states-preserved c =
    let before = c.states.invariant.shorter in
    let now = c.in_ok-state.ensures.shorter in
    let longer = map_more state_tree c.states.states.items _ c.in_ok-state.state c.in_ok-push.ensures.items in
    record {
      shorter = omega arith;
      reads = λ rows rest more.
          c.states.invariant.reads rows rest
          (one_state _ c.in_ok-state.ensures.ok (subst (λ read. MoreStates read c.in_ok-state.rest rows rest) longer more));
      whole = λ rows rest more lacks.
          let n = states_next (c.states.invariant.whole rows rest more lacks) lacks (c.is_at_name.ensures.yes c.states-test.true) in
          next_on n (c.in_ok-state.ensures.whole n.item n.behind n.item_read) longer;
    }

pub returns-in_err-state-clause-whole : goal.returns-in_err-state-clause-whole
returns-in_err-state-clause-whole c =
    λ rows rest more lacks.
    let n = states_next (c.states.invariant.whole rows rest more lacks) lacks (c.is_at_name.ensures.yes c.states-test.true) in
    want _ _ _ c.from_residual.result _ c.from_residual.ensures.1 (c.in_err-state.ensures.whole n.item n.behind n.item_read)

pub returns-clause-shorter : goal.returns-clause-shorter
returns-clause-shorter c = c.states.invariant.shorter

pub returns-clause-ok : goal.returns-clause-ok
returns-clause-ok c = c.states.invariant.reads _ _ (no_state refl refl)

pub returns-clause-whole : goal.returns-clause-whole
returns-clause-whole c = λ rows rest more lacks. states_end (c.states.invariant.whole rows rest more lacks) (c.is_at_name.ensures.no c.states-test.false)
