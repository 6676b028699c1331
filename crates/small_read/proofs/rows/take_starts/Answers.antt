use Rattle.std.proofs.Common.{refl, subst, arith}
use Rattle.lola_bits.proofs.Places.{map_more}
use Rattle.small_tree.specs.Table.{set_tree}
use Rattle.small_read.specs.Grammar.{MoreStarts, no_start, one_start}
use Rattle.small_read.proofs.Chains.{starts_next, starts_end, next_on}
use Rattle.small_read.proofs.Exits.{want}
use Rattle.small_read.proofs.rows.take_starts.Goals as goal

pub rows-preserved : goal.rows-preserved
rows-preserved c =
    let before = c.rows.invariant.shorter in
    let now = c.in_ok-row.ensures.shorter in
    let longer = map_more set_tree c.rows.rows.items _ c.in_ok-row.row c.in_ok-push.ensures.items in
    record {
      shorter = omega arith;
      reads = λ rows rest more.
          c.rows.invariant.reads rows rest
          (one_start _ c.in_ok-row.ensures.ok (subst (λ read. MoreStarts read c.in_ok-row.rest rows rest) longer more));
      whole = λ rows rest more lacks.
          let n = starts_next (c.rows.invariant.whole rows rest more lacks) lacks (c.is_at_name.ensures.yes c.rows-test.true) in
          next_on n (c.in_ok-row.ensures.whole n.item n.behind n.item_read) longer;
    }

pub returns-in_err-row-clause-whole : goal.returns-in_err-row-clause-whole
returns-in_err-row-clause-whole c =
    λ rows rest more lacks.
    let n = starts_next (c.rows.invariant.whole rows rest more lacks) lacks (c.is_at_name.ensures.yes c.rows-test.true) in
    want _ _ _ c.from_residual.result _ c.from_residual.ensures.1 (c.in_err-row.ensures.whole n.item n.behind n.item_read)

pub returns-clause-shorter : goal.returns-clause-shorter
returns-clause-shorter c = c.rows.invariant.shorter

pub returns-clause-ok : goal.returns-clause-ok
returns-clause-ok c = c.rows.invariant.reads _ _ (no_start refl refl)

pub returns-clause-whole : goal.returns-clause-whole
returns-clause-whole c = λ rows rest more lacks. starts_end (c.rows.invariant.whole rows rest more lacks) (c.is_at_name.ensures.no c.rows-test.false)
