use Rattle.std.proofs.Common.{sym, false}
use Rattle.lola_net.proofs.Steps.{place_get, place_past}
use Rattle.lola_net.proofs.run.bit_at.Goals as goal

pub returns-then-place-bits : goal.returns-then-place-bits
returns-then-place-bits c = sym (place_get c.args.bits.now c.args.place false c.if-place-bits.true)

pub returns-else-place-bits : goal.returns-else-place-bits
returns-else-place-bits c = sym (place_past c.args.bits.now c.args.place c.if-place-bits.false)
