use Rattle.std.proofs.Common.{List, subst}
use Rattle.lola_asked.specs.declared.bits.CaseBit.{CaseBit}
use Rattle.lola_asked.specs.Words.{AreWords}
use Rattle.lola_asked.proofs.Each.{each_step}
use Rattle.lola_asked.proofs.block.row_words.Goals as goal

pub loop-at-preserved : goal.loop-at-preserved
loop-at-preserved c =
    each_step (AreWords c.args.block) c.args.vectors.now c.loop-at.at c.index-vectors-at.result c.loop-at.made.items c.push.new.self.items c.in_ok-words.field-0 c.loop-at-test.true c.index-vectors-at.is c.in_ok-push.ensures.items c.loop-at.invariant
    (subst (λ (bits : List CaseBit). AreWords c.args.block bits c.in_ok-words.field-0) c.items.ensures c.in_ok-words.ensures)
