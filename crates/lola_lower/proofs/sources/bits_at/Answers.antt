use Rattle.std.proofs.Common.{◌+◌, ◌-◌, ◌*◌, ◌++◌, ap, sym, ◌∙◌, rules}
use Rattle.lola_lower.specs.Sources.{bits_at}
use Rattle.lola_lower.proofs.Loops.{bits_left, item_more}
use Rattle.lola_lower.proofs.sources.bits_at.Goals as goal

pub loop-place-preserved : goal.loop-place-preserved
loop-place-preserved c =
    item_more c.loop-place.bits.items c.push.new.self.items (bits_at c.args.first c.args.width) (bits_at c.args.first (c.args.width - (c.loop-place.place + 1))) (2 * (c.args.first + (c.args.width - 1 - c.loop-place.place)))
    (ap (λ l. c.loop-place.bits.items ++ l) (sym (bits_left c.args.first c.args.width c.loop-place.place c.loop-place-test.true)) ∙ c.loop-place.invariant) (search rules)
