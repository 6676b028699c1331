use Rattle.std.proofs.Common.{◌+◌}
use Rattle.lola_asked.specs.CaseBits.{place_bits}
use Rattle.lola_asked.proofs.Digits.{place_more, place_done}
use Rattle.lola_asked.proofs.bits.place_bits.Goals as goal

pub loop-at-preserved : goal.loop-at-preserved
loop-at-preserved c =
    place_more c.args.width c.args.place c.loop-at.at c.loop-at.bits.items c.push.new.self.items (place_bits c.args.width c.args.place) c.loop-at-test.true c.in_ok-push.ensures.items c.loop-at.invariant

pub returns : goal.returns
returns c = rw c.of.ensures (place_done c.args.width c.args.place c.loop-at.at (c.args.place + c.loop-at.at) c.loop-at.bits.items (place_bits c.args.width c.args.place) c.loop-at-test.false c.loop-at.invariant)
