use Rattle.std.proofs.Common.{ℕ, ◌+◌, ◌*◌, ◌<◌, ◌^◌, true, sym, ap, ◌∙◌, arith}
use Rattle.lola_lanes.specs.Law.{lane_constant}
use Rattle.lola_asked.specs.CaseBits.{bit_in}
use Rattle.lola_asked.proofs.block.word.Goals as goal

pub returns-then-value : goal.returns-then-value
returns-then-value c = (omega arith, λ n inside. ap (bit_in (64 * c.args.block + n)) c.in-Fixed.is ∙ (c.if-value.true ∙ sym (lane_constant true n inside)))
