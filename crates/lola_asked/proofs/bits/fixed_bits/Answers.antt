use Rattle.lola_asked.specs.CaseBits.{fixed_bits}
use Rattle.lola_asked.proofs.Digits.{fixed_more, fixed_done}
use Rattle.lola_asked.proofs.bits.fixed_bits.Goals as goal

pub loop-place-preserved : goal.loop-place-preserved
loop-place-preserved c =
    fixed_more c.args.width c.loop-place.place c.loop-place.rest c.loop-place.bits.items c.push.new.self.items (fixed_bits c.args.width c.args.number) c.loop-place-test.true c.in_ok-push.ensures.items c.loop-place.invariant

pub returns : goal.returns
returns c = rw c.of.ensures (fixed_done c.args.width c.loop-place.place c.loop-place.rest c.loop-place.bits.items (fixed_bits c.args.width c.args.number) c.loop-place-test.false c.loop-place.invariant)
