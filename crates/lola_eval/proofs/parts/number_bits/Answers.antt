use Rattle.lola_eval.specs.Steps.{number_step}
use Rattle.lola_eval.proofs.Loops.{number_more}
use Rattle.lola_eval.proofs.parts.number_bits.Goals as goal

pub loop-place-preserved : goal.loop-place-preserved
loop-place-preserved g c =
    let a = g.A.Algebra in
    record {
      steps = number_more a.calls c.args.width c.loop-place.place c.loop-place.rest (a.state c.loop-place.alg) (a.state c.constant-bit.new.self) c.constant-bit.result c.loop-place.bits.items
          (number_step a.calls c.args.width c.args.value (a.state c.args.alg.now)) c.loop-place-test.true c.constant-bit.ensures.made c.loop-place.invariant.steps c.push.new.self.items c.in_default.ensures.items;
    }
