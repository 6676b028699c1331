use Rattle.std.proofs.Common.{[], ◌∷◌, ◌++◌, map, refl, sym, ap, subst, ◌∙◌, arith}
use Rattle.std.specs.Prelude.{codes}
use Rattle.lola_bits.proofs.Places.{map_more}
use Rattle.tab_parse.specs.Placed.{phase_at}
use Rattle.tab_parse.specs.Grammar.{More, no_row, one_row, PhaseRow}
use Rattle.tab_parse.specs.Fronts.{at_word}
use Rattle.tab_parse.proofs.Chains.{next, next_on, first_on, ends}
use Rattle.tab_parse.proofs.Fronts.{phase_begins}
use Rattle.tab_parse.proofs.Exits.{want}
use Rattle.tab_parse.proofs.phases.take_phases.Goals as goal

pub returns-in_err-first-clause-whole : goal.returns-in_err-first-clause-whole
returns-in_err-first-clause-whole c =
    λ rows rest h lacks.
    want _ _ _ c.from_residual.result _ c.from_residual.ensures.1 (c.in_err-first.ensures.whole h.phase h.behind h.first_read tt)

pub rows-init : goal.rows-init
rows-init c =
    let first = ap (map phase_at) (c.in_ok-push.ensures.items ∙ ap (λ v. v ++ c.in_ok-first.first ∷ []) c.new-rows.ensures.items) in
    record {
      shorter = c.in_ok-first.ensures.shorter;
      reads = λ rows rest more.
          record {
            phase = phase_at c.in_ok-first.first;
            behind = c.in_ok-first.behind;
            first_read = c.in_ok-first.ensures.ok;
            more_read = subst (λ read. More PhaseRow read c.in_ok-first.behind rows rest) first more;
          };
      whole = λ rows rest h lacks. first_on h.more_read (c.in_ok-first.ensures.whole h.phase h.behind h.first_read tt) first;
    }

pub rows-preserved : goal.rows-preserved
rows-preserved c =
    let before = c.rows.invariant.shorter in
    let now = c.in_ok-row.ensures.shorter in
    let longer = map_more phase_at c.rows.rows.items _ c.in_ok-row.row c.in_ok-push-2.ensures.items in
    record {
      shorter = omega arith;
      reads = λ rows rest more.
          c.rows.invariant.reads rows rest
          (one_row _ c.in_ok-row.ensures.ok (subst (λ read. More PhaseRow read c.in_ok-row.rest rows rest) longer more));
      whole = λ rows rest more lacks.
          let n = next (at_word (codes "PHASE")) (c.rows.invariant.whole rows rest more lacks) lacks (sym c.is_at.ensures ∙ c.rows-test.true) in
          next_on n (c.in_ok-row.ensures.whole n.item n.behind n.item_read tt) longer;
    }

pub returns-in_err-row-clause-whole : goal.returns-in_err-row-clause-whole
returns-in_err-row-clause-whole c =
    λ rows rest more lacks.
    let n = next (at_word (codes "PHASE")) (c.rows.invariant.whole rows rest more lacks) lacks (sym c.is_at.ensures ∙ c.rows-test.true) in
    want _ _ _ c.from_residual-in_err-row.result _ c.from_residual-in_err-row.ensures.1 (c.in_err-row.ensures.whole n.item n.behind n.item_read tt)

pub returns-clause-shorter : goal.returns-clause-shorter
returns-clause-shorter c = c.rows.invariant.shorter

pub returns-clause-ok : goal.returns-clause-ok
returns-clause-ok c = c.rows.invariant.reads _ _ (no_row refl refl)

pub returns-clause-whole : goal.returns-clause-whole
returns-clause-whole c = λ rows rest more lacks. ends (at_word (codes "PHASE")) (c.rows.invariant.whole rows rest more lacks) (λ row behind read. phase_begins read) (sym c.is_at.ensures ∙ c.rows-test.false)
