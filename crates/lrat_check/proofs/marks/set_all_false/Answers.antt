use Rattle.std.proofs.Common.{rules, ◌<◌, ◌≡◌, length, get_or, pos, to_z, of_z, w32, SFits}
use Rattle.std.proofs.lemmas.Int.{to_z-of_z}
use Rattle.lrat_check.proofs.Stamps.{false_step, latest_set}
use Rattle.lrat_check.proofs.marks.set_all_false.Goals as goal

pub loop-literal-preserved : goal.loop-literal-preserved
loop-literal-preserved c =
    let x = get_or c.args.clause.now c.loop-literal.literal-index (pos 0) in
    let f : SFits w32 (get_or c.args.clause.now c.loop-literal.literal-index (pos 0)) = search rules in
    let e : to_z w32 (of_z w32 x) ≡ x = to_z-of_z w32 _ f in
    let b : c.place.result < length c.loop-literal.stamps = search rules in (
      false_step c.loop-literal.stamps c.args.stamp c.loop-literal.literal-index c.place.result (to_z w32 (of_z w32 x)) c.args.clause.now _ c.loop-literal-test.true e
          c.place.ensures.value b c.loop-literal.invariant.0,
      latest_set c.loop-literal.stamps c.args.stamp c.place.result b c.loop-literal.invariant.1,
    )
