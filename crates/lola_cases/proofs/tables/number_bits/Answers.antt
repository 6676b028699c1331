use Rattle.lola_cases.proofs.Vectors.{bits_in, bit_more, bits_done}
use Rattle.lola_cases.proofs.tables.number_bits.Goals as goal

pub loop-place-preserved : goal.loop-place-preserved
loop-place-preserved c =
    bit_more c.args.width c.loop-place.place c.loop-place.rest c.loop-place.bits.items c.push.new.self.items (bits_in c.args.width c.args.number) c.loop-place-test.true c.in_ok-push.ensures.items c.loop-place.invariant

pub returns : goal.returns
returns c = rw c.of.ensures (bits_done c.args.width c.loop-place.place c.loop-place.rest c.args.number c.loop-place.bits.items c.loop-place-test.false c.requires c.loop-place.invariant)
