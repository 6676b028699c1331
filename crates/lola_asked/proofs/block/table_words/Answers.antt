use Rattle.std.proofs.Common.{List, ℕ, subst, sym}
use Rattle.lola_asked.specs.declared.bits.CaseBit.{CaseBit}
use Rattle.lola_asked.specs.Words.{AreRowWords}
use Rattle.lola_asked.proofs.Each.{each_step}
use Rattle.lola_asked.proofs.block.table_words.Goals as goal

pub loop-at-preserved : goal.loop-at-preserved
loop-at-preserved c =
    each_step (AreRowWords c.args.block) c.args.rows.now c.loop-at.at c.index-rows-at.result c.loop-at.made.items c.push.new.self.items c.of.result c.loop-at-test.true c.index-rows-at.is c.in_ok-push.ensures.items c.loop-at.invariant
    (subst (λ (made : List (List ℕ)). AreRowWords c.args.block c.index-rows-at.result made) (sym c.of.ensures)
    (subst (λ (row : List (List CaseBit)). AreRowWords c.args.block row c.in_ok-row_words.field-0.items) c.items.ensures c.in_ok-row_words.ensures))
