use Rattle.std.proofs.Common.{◌+◌, ◌-◌, ◌*◌, ◌++◌, ap, sym, ◌∙◌, rules, arith}
use Rattle.lola_lower.specs.Sources.{bits_at, elements_at}
use Rattle.lola_lower.proofs.Loops.{elements_left, times_left, item_more}
use Rattle.lola_lower.proofs.sources.elements_at.Goals as goal

pub bits_at-requires : goal.bits_at-requires
bits_at-requires c = let t = times_left c.args.width c.args.count c.loop-element.element c.loop-element-test.true in let i = c.loop-element.invariant.at in let r = c.requires in omega arith

pub loop-element-preserved : goal.loop-element-preserved
loop-element-preserved c = record {
  made = item_more c.loop-element.elements.items c.push.new.self.items (elements_at c.args.first c.args.width c.args.count) (elements_at (c.loop-element.next + c.args.width) c.args.width (c.args.count - (c.loop-element.element + 1))) (bits_at c.loop-element.next c.args.width)
      (ap (λ l. c.loop-element.elements.items ++ l) (sym (elements_left c.loop-element.next c.args.width c.args.count c.loop-element.element c.loop-element-test.true)) ∙ c.loop-element.invariant.made) (search rules);
  at = let t = times_left c.args.width c.args.count c.loop-element.element c.loop-element-test.true in let i = c.loop-element.invariant.at in omega arith;
}
