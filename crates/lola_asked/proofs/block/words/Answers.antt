use Rattle.lola_bits.proofs.All.{of_all}
use Rattle.lola_bits.proofs.Places.{item_in}
use Rattle.lola_asked.specs.CaseBits.{IsSmall}
use Rattle.lola_asked.specs.Words.{IsWord}
use Rattle.lola_asked.proofs.Each.{each_step}
use Rattle.lola_asked.proofs.block.words.Goals as goal

pub word-requires : goal.word-requires
word-requires c = of_all IsSmall c.bit_at-bit.result c.args.bits.now c.requires (item_in c.args.bits.now c.loop-at.at c.bit_at-bit.result c.loop-at-test.true c.bit_at-bit.ensures)

pub loop-at-preserved : goal.loop-at-preserved
loop-at-preserved c =
    each_step (IsWord c.args.block) c.args.bits.now c.loop-at.at c.bit_at-bit.result c.loop-at.made.items c.push.new.self.items c.word.result c.loop-at-test.true c.bit_at-bit.ensures c.in_ok-push.ensures.items c.loop-at.invariant c.word.ensures
