use Rattle.std.proofs.Common.{sym, ap}
use Rattle.std.specs.Prelude.{Some}
use Rattle.lola_alg.specs.Steps.{not_step, each_step}
use Rattle.lola_alg.proofs.Loops.{each_more, keeping_more, longer}
use Rattle.lola_alg.proofs.vectors.negations.Goals as goal

pub loop-at-preserved : goal.loop-at-preserved
loop-at-preserved g c =
    let a = g.A.Algebra in
    record {
      steps =
          each_more (not_step a.calls) c.args.x.now c.loop-at.at c.index-x-at.result (a.state c.loop-at.alg) (a.state c.not-bit.new.self) c.loop-at.bits.items
          (each_step (not_step a.calls) c.args.x.now (a.state c.args.alg.now)) c.not-bit.result c.loop-at-test.true c.index-x-at.is (ap (λ made. Some made) (sym c.not-bit.ensures.made))
          c.loop-at.invariant.steps c.push.new.self.items c.in_default.ensures.items;
      keeping =
          keeping_more a.meaning (a.state c.args.alg.now) (a.state c.loop-at.alg) (a.state c.not-bit.new.self) c.loop-at.bits.items c.not-bit.result c.loop-at.invariant.keeping
          c.not-bit.ensures.kept c.push.new.self.items c.in_default.ensures.items;
      long = longer c.loop-at.bits.items _ c.loop-at.at c.loop-at.invariant.long c.push.new.self.items c.in_default.ensures.items;
    }
