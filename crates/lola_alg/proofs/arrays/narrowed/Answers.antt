use Rattle.std.proofs.Common.{sym, ap, subst, ◌∙◌}
use Rattle.lola_alg.specs.Steps.{halve_step, read_step}
use Rattle.lola_alg.specs.Means.{AreWide}
use Rattle.lola_alg.proofs.Loops.{stays_then}
use Rattle.lola_alg.proofs.Elements.{fails_on, read_more, read_fails}
use Rattle.lola_alg.proofs.arrays.narrowed.Goals as goal

pub returns-in-Err-clause-steps : goal.returns-in-Err-clause-steps
returns-in-Err-clause-steps g c =
    let a = g.A.Algebra in
    let d = a.state c.loop-at.alg in
    let level = ap (λ es. halve_step a.calls c.index-place-at.result es d) c.as_slice.ensures.value in
    fails_on (halve_step a.calls c.index-place-at.result c.as_slice.result.now d) (read_step a.calls c.args.elements.items c.args.place.now (a.state c.args.alg.now)) c.in-Err.error
    (λ none. read_fails a.calls c.loop-at.level.items c.args.place.now c.loop-at.at c.index-place-at.result d (read_step a.calls c.args.elements.items c.args.place.now (a.state c.args.alg.now))
    c.loop-at-test.true c.index-place-at.is (sym level ∙ none) c.loop-at.invariant.steps)
    c.in-Err.ensures.steps

pub loop-at-preserved : goal.loop-at-preserved
loop-at-preserved g c =
    let a = g.A.Algebra in
    let d = a.state c.loop-at.alg in
    let level = ap (λ es. halve_step a.calls c.index-place-at.result es d) c.as_slice.ensures.value in
    record {
      steps =
          read_more a.calls c.loop-at.level.items c.in-Ok.half.items c.args.place.now c.loop-at.at c.index-place-at.result d (a.state c.halved.new.alg)
          (read_step a.calls c.args.elements.items c.args.place.now (a.state c.args.alg.now)) c.loop-at-test.true c.index-place-at.is (sym level ∙ c.in-Ok.ensures.steps) c.loop-at.invariant.steps;
      stays = stays_then a.meaning (a.state c.args.alg.now) d (a.state c.halved.new.alg) c.loop-at.invariant.stays c.in-Ok.ensures.kept.0;
      known = c.in-Ok.ensures.kept.1;
      same = (
        c.loop-at.invariant.same.0,
        c.in-Ok.ensures.wide c.loop-at.invariant.same.0 (subst (AreWide c.loop-at.invariant.same.0) (sym c.as_slice.ensures.value) c.loop-at.invariant.same.1),
      );
    }
