use Rattle.std.proofs.Common.{rules, arith, ◌≡◌, ◌<◌, ◌+◌, ◌*◌, length, nat_abs, ap, sym, ◌∙◌, get_or, pos, to_z, of_z, w32, SFits}
use Rattle.std.proofs.lemmas.Int.{to_z-of_z}
use Rattle.lrat_check.proofs.Stamps.{looked_false, looked_first, looked_same, looked_other, same_bits}
use Rattle.lrat_check.proofs.marks.look.Goals as goal
use Rattle.lrat_check.proofs.marks.look.Goals.{then-stamps-place+in-None, then-stamps-place+in-Some+else-literal-other, else-stamps-place}

pub bounds-stamps-opposite_place : goal.bounds-stamps-opposite_place
bounds-stamps-opposite_place c =
    let o = c.in-Some-first.literal in
    let f : SFits w32 o = (rw c.in-Some-first.is at c.loop-literal.invariant.fits) in
    let b : 2 * nat_abs o + 1 < length c.args.stamps.now = (rw c.in-Some-first.is at c.loop-literal.invariant.within) in
    let h = (rw (to_z-of_z w32 o f) at c.opposite_place.ensures.within) in
    omega (arith, h, b)

pub returns-then-literal-other-clause-hint : goal.returns-then-literal-other-clause-hint
returns-then-literal-other-clause-hint c =
    let x = get_or c.args.clause.now c.loop-literal.literal-index (pos 0) in
    let f : SFits w32 (get_or c.args.clause.now c.loop-literal.literal-index (pos 0)) = search rules in
    let e : to_z w32 (of_z w32 x) ≡ x = to_z-of_z w32 _ f in
    looked_other c.args.stamps.now c.args.stamp c.place.result c.in-Some.other c.loop-literal.literal-index c.args.clause.now (to_z w32 (of_z w32 x)) c.loop-literal-test.true e
    c.place.ensures.value c.if-stamps-place.true (λ s. c.if-literal-other.true (ap (of_z w32) (sym e ∙ s))) (rw c.in-Some.is at c.loop-literal.invariant)

pub loop-literal-preserved : goal.loop-literal-preserved
loop-literal-preserved c =
    let x = get_or c.args.clause.now c.loop-literal.literal-index (pos 0) in
    let f : SFits w32 (get_or c.args.clause.now c.loop-literal.literal-index (pos 0)) = search rules in
    let e : to_z w32 (of_z w32 x) ≡ x = to_z-of_z w32 _ f in
    let b : 2 * nat_abs x + 1 < length c.args.stamps.now = c.requires.within _ _ c.loop-literal-test.true in
    elim c.if-stamps-place.branch [
      | then-stamps-place+in-None w ↦ rw w.first-is (looked_first c.args.stamps.now c.args.stamp c.place.result c.loop-literal.literal-index c.args.clause.now (to_z w32 (of_z w32 x))
          c.loop-literal-test.true e c.place.ensures.value w.if-stamps-place.true (rw e f) (rw e b) (rw w.in-None.is at c.loop-literal.invariant))
      | then-stamps-place+in-Some+else-literal-other w ↦
          let inv = (rw w.in-Some.is at c.loop-literal.invariant) in
          rw w.first-is (looked_same c.args.stamps.now c.args.stamp c.place.result w.in-Some.other c.loop-literal.literal-index c.args.clause.now (to_z w32 (of_z w32 x))
          c.loop-literal-test.true e c.place.ensures.value w.if-stamps-place.true (e ∙ same_bits x w.in-Some.other f inv.fits w.if-literal-other.false) inv)
      | else-stamps-place w ↦ rw w.first-is (looked_false c.args.stamps.now c.args.stamp c.place.result c.loop-literal.first c.loop-literal.literal-index c.args.clause.now (to_z w32 (of_z w32 x))
          c.loop-literal-test.true e c.place.ensures.value w.if-stamps-place.false c.loop-literal.invariant)
    ]
