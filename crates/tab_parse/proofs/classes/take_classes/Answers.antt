use Rattle.std.proofs.Common.{refl, sym, subst, ◌∙◌, arith}
use Rattle.lola_bits.proofs.Places.{map_more}
use Rattle.tab_parse.specs.Placed.{class_at}
use Rattle.tab_parse.specs.Grammar.{More, no_row, one_row, ClassRow}
use Rattle.tab_parse.specs.Fronts.{at_class}
use Rattle.tab_parse.proofs.Chains.{next, next_on, ends}
use Rattle.tab_parse.proofs.ClassEnds.{class_begins, end_no_class, classes_end}
use Rattle.tab_parse.proofs.Exits.{want}
use Rattle.tab_parse.proofs.classes.take_classes.Goals as goal

pub rows-preserved : goal.rows-preserved
rows-preserved c =
    let before = c.rows.invariant.shorter in
    let now = c.in_ok-row.ensures.shorter in
    let longer = map_more class_at c.rows.rows.items _ c.in_ok-row.row c.in_ok-push.ensures.items in
    record {
      shorter = omega arith;
      reads = λ rows rest more.
          c.rows.invariant.reads rows rest
          (one_row _ c.in_ok-row.ensures.ok (subst (λ read. More ClassRow read c.in_ok-row.rest rows rest) longer more));
      whole = λ rows rest more lacks.
          let n = next at_class (c.rows.invariant.whole rows rest more lacks) (end_no_class rest lacks) (sym c.is_at_class.ensures ∙ c.rows-test.true) in
          next_on n (c.in_ok-row.ensures.whole n.item n.behind n.item_read (classes_end n.more lacks)) longer;
    }

pub returns-in_err-row-clause-whole : goal.returns-in_err-row-clause-whole
returns-in_err-row-clause-whole c =
    λ rows rest more lacks.
    let n = next at_class (c.rows.invariant.whole rows rest more lacks) (end_no_class rest lacks) (sym c.is_at_class.ensures ∙ c.rows-test.true) in
    want _ _ _ c.from_residual.result _ c.from_residual.ensures.1 (c.in_err-row.ensures.whole n.item n.behind n.item_read (classes_end n.more lacks))

pub returns-clause-shorter : goal.returns-clause-shorter
returns-clause-shorter c = c.rows.invariant.shorter

pub returns-clause-ok : goal.returns-clause-ok
returns-clause-ok c = c.rows.invariant.reads _ _ (no_row refl refl)

pub returns-clause-whole : goal.returns-clause-whole
returns-clause-whole c = λ rows rest more lacks. ends at_class (c.rows.invariant.whole rows rest more lacks) (λ row behind read. class_begins read) (sym c.is_at_class.ensures ∙ c.rows-test.false)
