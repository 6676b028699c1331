use Rattle.lola_alg.proofs.Loops.{stays_then}
use Rattle.lola_checks.specs.Steps.{fits_from}
use Rattle.lola_checks.proofs.Loops.{marks_more, marks_fail}
use Rattle.lola_checks.proofs.patterns.with_marks.Goals as goal

pub returns-in-Err : goal.returns-in-Err
returns-in-Err g c =
    let a = g.A.Algebra in
    record {
      steps = marks_fail a.calls c.args.pattern.now c.args.bits.now c.loop-at.at c.mark_at-mark.result c.index-bits-pattern.result c.loop-at.so (a.state c.loop-at.alg) (a.state c.with_mark.new.alg)
          (fits_from a.calls c.args.pattern.now c.args.bits.now c.args.first (a.state c.args.alg.now)) c.in-Err.error c.loop-at-test.true c.requires.long c.mark_at-mark.ensures c.index-bits-pattern.is c.in-Err.ensures.steps c.loop-at.invariant.steps;
    }

pub loop-at-preserved : goal.loop-at-preserved
loop-at-preserved g c =
    let a = g.A.Algebra in
    record {
      steps = marks_more a.calls c.args.pattern.now c.args.bits.now c.loop-at.at c.mark_at-mark.result c.index-bits-pattern.result c.loop-at.so c.in-Ok.so (a.state c.loop-at.alg) (a.state c.with_mark.new.alg)
          (fits_from a.calls c.args.pattern.now c.args.bits.now c.args.first (a.state c.args.alg.now)) c.loop-at-test.true c.requires.long c.mark_at-mark.ensures c.index-bits-pattern.is c.in-Ok.ensures.steps c.loop-at.invariant.steps;
      stays = stays_then a.meaning (a.state c.args.alg.now) (a.state c.loop-at.alg) (a.state c.with_mark.new.alg) c.loop-at.invariant.stays c.in-Ok.ensures.kept.0;
      so = c.in-Ok.ensures.kept.1;
    }
