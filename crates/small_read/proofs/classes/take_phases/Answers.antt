use Rattle.std.proofs.Common.{[], ◌∷◌, ◌++◌, map, refl, ap, subst, ◌∙◌, arith}
use Rattle.lola_bits.proofs.Places.{map_more}
use Rattle.small_tree.specs.Table.{phase_tree}
use Rattle.small_read.specs.Grammar.{MorePhases, no_phase, next_phase}
use Rattle.small_read.proofs.Chains.{phases_next, phases_end, phases_on, next_on}
use Rattle.small_read.proofs.Exits.{want}
use Rattle.small_read.proofs.classes.take_phases.Goals as goal

pub returns-in_err-first-clause-whole : goal.returns-in_err-first-clause-whole
returns-in_err-first-clause-whole c =
    λ rows rest h lacks.
    want _ _ _ c.from_residual.result _ c.from_residual.ensures.1
    (c.in_err-first.ensures.whole h.phase h.more h.phase_read)

pub phases-init : goal.phases-init
phases-init c =
    let first = ap (map phase_tree) (c.in_ok-push.ensures.items ∙ ap (λ v. v ++ c.in_ok-first.first ∷ []) c.new-phases.ensures.items) in
    record {
      shorter = c.in_ok-first.ensures.shorter;
      reads = λ rows rest more.
          record {
            phase = phase_tree c.in_ok-first.first;
            more = c.in_ok-first.behind;
            phase_read = c.in_ok-first.ensures.ok;
            phases_read = subst (λ read. MorePhases read c.in_ok-first.behind rows rest) first more;
          };
      whole = λ rows rest h lacks. phases_on h (c.in_ok-first.ensures.whole h.phase h.more h.phase_read) first;
    }

pub phases-preserved : goal.phases-preserved
phases-preserved c =
    let before = c.phases.invariant.shorter in
    let now = c.in_ok-phase.ensures.shorter in
    let longer = map_more phase_tree c.phases.phases.items _ c.in_ok-phase.phase c.in_ok-push-2.ensures.items in
    record {
      shorter = omega arith;
      reads = λ rows rest more.
          c.phases.invariant.reads rows rest
          (next_phase _ c.in_ok-phase.ensures.ok (subst (λ read. MorePhases read c.in_ok-phase.rest rows rest) longer more));
      whole = λ rows rest more lacks.
          let n = phases_next (c.phases.invariant.whole rows rest more lacks) lacks (c.is_at.ensures.yes c.phases-test.true) in
          next_on n (c.in_ok-phase.ensures.whole n.item n.behind n.item_read) longer;
    }

pub returns-in_err-phase-clause-whole : goal.returns-in_err-phase-clause-whole
returns-in_err-phase-clause-whole c =
    λ rows rest more lacks.
    let n = phases_next (c.phases.invariant.whole rows rest more lacks) lacks (c.is_at.ensures.yes c.phases-test.true) in
    want _ _ _ c.from_residual-in_err-phase.result _ c.from_residual-in_err-phase.ensures.1
    (c.in_err-phase.ensures.whole n.item n.behind n.item_read)

pub returns-clause-shorter : goal.returns-clause-shorter
returns-clause-shorter c = c.phases.invariant.shorter

pub returns-clause-ok : goal.returns-clause-ok
returns-clause-ok c = c.phases.invariant.reads _ _ (no_phase refl refl)

pub returns-clause-whole : goal.returns-clause-whole
returns-clause-whole c = λ rows rest more lacks. phases_end (c.phases.invariant.whole rows rest more lacks) (c.is_at.ensures.no c.phases-test.false)
