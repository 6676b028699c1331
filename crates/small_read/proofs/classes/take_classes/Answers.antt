use Rattle.std.proofs.Common.{refl, subst, arith}
use Rattle.lola_bits.proofs.Places.{map_more}
use Rattle.small_tree.specs.Table.{class_tree}
use Rattle.small_read.specs.Grammar.{MoreClasses, no_class, one_class}
use Rattle.small_read.proofs.Chains.{classes_next, classes_end, next_on, classes_no_row}
use Rattle.small_read.proofs.Exits.{want}
use Rattle.small_read.proofs.classes.take_classes.Goals as goal

pub classes-preserved : goal.classes-preserved
classes-preserved c =
    let before = c.classes.invariant.shorter in
    let now = c.in_ok-class.ensures.shorter in
    let longer = map_more class_tree c.classes.classes.items _ c.in_ok-class.class c.in_ok-push.ensures.items in
    record {
      shorter = omega arith;
      reads = λ rows rest more.
          c.classes.invariant.reads rows rest
          (one_class _ c.in_ok-class.ensures.ok (subst (λ read. MoreClasses read c.in_ok-class.rest rows rest) longer more));
      whole = λ rows rest more lacks.
          let n = classes_next (c.classes.invariant.whole rows rest more lacks) lacks (c.is_at.ensures.yes c.classes-test.true) in
          next_on n (c.in_ok-class.ensures.whole n.item n.behind n.item_read (classes_no_row n.more lacks)) longer;
    }

pub returns-in_err-class-clause-whole : goal.returns-in_err-class-clause-whole
returns-in_err-class-clause-whole c =
    λ rows rest more lacks.
    let n = classes_next (c.classes.invariant.whole rows rest more lacks) lacks (c.is_at.ensures.yes c.classes-test.true) in
    want _ _ _ c.from_residual.result _ c.from_residual.ensures.1
    (c.in_err-class.ensures.whole n.item n.behind n.item_read (classes_no_row n.more lacks))

pub returns-clause-shorter : goal.returns-clause-shorter
returns-clause-shorter c = c.classes.invariant.shorter

pub returns-clause-ok : goal.returns-clause-ok
returns-clause-ok c = c.classes.invariant.reads _ _ (no_class refl refl)

pub returns-clause-whole : goal.returns-clause-whole
returns-clause-whole c = λ rows rest more lacks. classes_end (c.classes.invariant.whole rows rest more lacks) (c.is_at.ensures.no c.classes-test.false)
