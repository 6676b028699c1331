use Rattle.std.proofs.Common.{◌<◌, length, sym, subst}
use Rattle.lola_alg.specs.Steps.{carry_step}
use Rattle.lola_alg.proofs.Loops.{carry_more, keeping_more, longer}
use Rattle.lola_alg.proofs.sums.carried.Goals as goal

pub loop-at-preserved : goal.loop-at-preserved
loop-at-preserved g c =
    let a = g.A.Algebra in
    let within : c.loop-at.at < length c.args.y.now = subst (λ n. c.loop-at.at < n) (sym c.requires.same) c.loop-at-test.true in
    record {
      steps =
          carry_more a.calls c.args.x.now c.args.y.now c.loop-at.at c.index-x-at.result c.index-y-at.result c.loop-at.carry (a.state c.loop-at.alg) (a.state c.added.new.alg) c.loop-at.bits.items
          (carry_step a.calls c.args.x.now c.args.y.now c.args.first (a.state c.args.alg.now)) c.in-Ok.made c.loop-at-test.true within c.index-x-at.is c.index-y-at.is c.in-Ok.ensures.steps
          c.loop-at.invariant.steps c.push.new.self.items c.in_default.ensures.items;
      keeping =
          keeping_more a.meaning (a.state c.args.alg.now) (a.state c.loop-at.alg) (a.state c.added.new.alg) c.loop-at.bits.items c.in-Ok.made.0 c.loop-at.invariant.keeping
          (c.in-Ok.ensures.kept.0, c.in-Ok.ensures.kept.1.0) c.push.new.self.items c.in_default.ensures.items;
      carry = c.in-Ok.ensures.kept.1.1;
      long = longer c.loop-at.bits.items c.in-Ok.made.0 c.loop-at.at c.loop-at.invariant.long c.push.new.self.items c.in_default.ensures.items;
    }
