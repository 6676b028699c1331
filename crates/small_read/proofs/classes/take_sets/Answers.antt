use Rattle.std.proofs.Common.{refl, subst, arith}
use Rattle.lola_bits.proofs.Places.{map_more}
use Rattle.small_tree.specs.Table.{set_tree}
use Rattle.small_read.specs.Grammar.{MoreSets, no_set, one_set}
use Rattle.small_read.proofs.Chains.{sets_next, sets_end, next_on}
use Rattle.small_read.proofs.Exits.{want}
use Rattle.small_read.proofs.classes.take_sets.Goals as goal

pub rows-preserved : goal.rows-preserved
rows-preserved c =
    let before = c.rows.invariant.shorter in
    let passed = c.in-Some.ensures.shorter in
    let now = c.in_ok-row-in-Some.ensures.shorter in
    let longer = map_more set_tree c.rows.rows.items _ c.in_ok-row-in-Some.row c.in_ok-push-in-Some.ensures.items in
    record {
      shorter = omega arith;
      reads = λ rows rest more.
          c.rows.invariant.reads rows rest
          (one_set _ _ c.in-Some.ensures.ok c.in_ok-row-in-Some.ensures.ok (subst (λ read. MoreSets read c.in_ok-row-in-Some.rest rows rest) longer more));
      whole = λ rows rest more lacks.
          let n = sets_next (c.rows.invariant.whole rows rest more lacks) lacks c.in-Some.ensures.ok in
          next_on n (c.in_ok-row-in-Some.ensures.whole n.item n.behind n.item_read) longer;
    }

pub returns-in_err-row-in-Some-clause-whole : goal.returns-in_err-row-in-Some-clause-whole
returns-in_err-row-in-Some-clause-whole c =
    λ rows rest more lacks.
    let n = sets_next (c.rows.invariant.whole rows rest more lacks) lacks c.in-Some.ensures.ok in
    want _ _ _ c.from_residual.result _ c.from_residual.ensures.1 (c.in_err-row-in-Some.ensures.whole n.item n.behind n.item_read)

pub returns-in-None-clause-shorter : goal.returns-in-None-clause-shorter
returns-in-None-clause-shorter c = c.rows.invariant.shorter

pub returns-in-None-clause-ok : goal.returns-in-None-clause-ok
returns-in-None-clause-ok c = c.rows.invariant.reads _ _ (no_set refl refl)

pub returns-in-None-clause-whole : goal.returns-in-None-clause-whole
returns-in-None-clause-whole c = λ rows rest more lacks. sets_end (c.rows.invariant.whole rows rest more lacks) c.in-None.ensures.ok
