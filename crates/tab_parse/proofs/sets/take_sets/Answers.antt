use Rattle.std.proofs.Common.{refl, sym, subst, ◌∙◌, arith}
use Rattle.lola_bits.proofs.Places.{map_more}
use Rattle.tab_parse.specs.Placed.{set_at}
use Rattle.tab_parse.specs.Grammar.{More, no_row, one_row, SetLine}
use Rattle.tab_parse.specs.Fronts.{at_word}
use Rattle.std.specs.Prelude.{codes}
use Rattle.tab_parse.proofs.Chains.{next, next_on, ends}
use Rattle.tab_parse.proofs.Fronts.{set_line_begins}
use Rattle.tab_parse.proofs.Exits.{want}
use Rattle.tab_parse.proofs.sets.take_sets.Goals as goal

pub rows-preserved : goal.rows-preserved
rows-preserved c =
    let before = c.rows.invariant.shorter in
    let now = c.in_ok-row.ensures.shorter in
    let longer = map_more set_at c.rows.rows.items _ c.in_ok-row.row c.in_ok-push.ensures.items in
    record {
      shorter = omega arith;
      reads = λ rows rest more.
          c.rows.invariant.reads rows rest
          (one_row _ c.in_ok-row.ensures.ok (subst (λ read. More SetLine read c.in_ok-row.rest rows rest) longer more));
      whole = λ rows rest more lacks.
          let n = next (at_word (codes "SET")) (c.rows.invariant.whole rows rest more lacks) lacks (sym c.is_at.ensures ∙ c.rows-test.true) in
          next_on n (c.in_ok-row.ensures.whole n.item n.behind n.item_read tt) longer;
    }

pub returns-in_err-row-clause-whole : goal.returns-in_err-row-clause-whole
returns-in_err-row-clause-whole c =
    λ rows rest more lacks.
    let n = next (at_word (codes "SET")) (c.rows.invariant.whole rows rest more lacks) lacks (sym c.is_at.ensures ∙ c.rows-test.true) in
    want _ _ _ c.from_residual.result _ c.from_residual.ensures.1 (c.in_err-row.ensures.whole n.item n.behind n.item_read tt)

pub returns-clause-shorter : goal.returns-clause-shorter
returns-clause-shorter c = c.rows.invariant.shorter

pub returns-clause-ok : goal.returns-clause-ok
returns-clause-ok c = c.rows.invariant.reads _ _ (no_row refl refl)

pub returns-clause-whole : goal.returns-clause-whole
returns-clause-whole c = λ rows rest more lacks. ends (at_word (codes "SET")) (c.rows.invariant.whole rows rest more lacks) (λ row behind read. set_line_begins read) (sym c.is_at.ensures ∙ c.rows-test.false)
