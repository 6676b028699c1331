use Rattle.std.proofs.Common.{◌+◌, ◌-◌, ◌++◌, ap, sym, ◌∙◌, rules}
use Rattle.lola_lower.specs.Names.{bit_name, names_down}
use Rattle.lola_lower.proofs.Loops.{names_left, item_more}
use Rattle.lola_lower.proofs.names.push_down.Goals as goal

pub loop-place-preserved : goal.loop-place-preserved
loop-place-preserved c =
    item_more c.loop-place.names.items c.push.new.self.items (c.args.names.now.items ++ names_down c.args.text.now c.args.width) (names_down c.args.text.now (c.args.width - (c.loop-place.place + 1))) (bit_name c.args.text.now (c.args.width - 1 - c.loop-place.place))
    (ap (λ l. c.loop-place.names.items ++ l) (sym (names_left c.args.text.now c.args.width c.loop-place.place c.loop-place-test.true)) ∙ c.loop-place.invariant) (search rules)
