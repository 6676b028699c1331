use Rattle.std.proofs.Common.{◌++◌, replicate}
use Rattle.lola_asked.proofs.Vectors.{same_more}
use Rattle.lola_asked.proofs.setting.push_widths.Goals as goal

pub loop-element-preserved : goal.loop-element-preserved
loop-element-preserved c =
    let l = c.loop-element in
    same_more c.args.count l.element c.args.width l.widths.items c.push.new.self.items (c.args.widths.now.items ++ replicate c.args.count c.args.width) c.loop-element-test.true c.in_ok-push.ensures.items l.invariant
