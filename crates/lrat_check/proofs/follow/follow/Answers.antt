use Rattle.std.proofs.Common.{rules, arith, get_or, pos, to_z, of_z, w32, w64, SFits, sym}
use Rattle.std.proofs.lemmas.Int.{to_z-of_z}
use Rattle.lrat_check.specs.Clauses.{AreKnown}
use Rattle.lrat_check.specs.Marks.{marked}
use Rattle.lrat_check.proofs.Sound.{hinted}
use Rattle.lrat_check.proofs.Followed.{one_hint}
use Rattle.lrat_check.proofs.follow.follow.Goals as goal

pub look-requires : goal.look-requires
look-requires c = record {
  within = λ k d h.
      let q = hinted (λ x. AreKnown c.args.vars x) c.args.table.now.force _ c.in-Some.clause.now c.requires.known (sym c.in-Some.ensures) k d h in omega (arith, q, c.requires.room);
}

pub loop-hint-preserved : goal.loop-hint-preserved
loop-hint-preserved c =
    let x = get_or c.args.hints.now c.loop-hint.hint-index (pos 0) in
    let f : SFits w64 (get_or c.args.hints.now c.loop-hint.hint-index (pos 0)) = search rules in
    let g : SFits w32 c.in-Forces.literal = search rules in (
      one_hint c.args.table.now.force (marked c.loop-hint.stamps c.args.stamp) (marked c.set_true.new.stamps c.args.stamp) _ c.loop-hint.hint-index (to_z w64 (of_z w64 x))
          c.args.hints.now c.in-Some.clause.now c.in-Forces.literal (to_z w32 (of_z w32 c.in-Forces.literal)) c.loop-hint-test.true (to_z-of_z w64 _ f) c.in-Some.ensures
          c.in-Forces.ensures.hint (to_z-of_z w32 _ g) c.set_true.ensures.falses c.loop-hint.invariant.0,
      c.set_true.ensures.latest,
    )
