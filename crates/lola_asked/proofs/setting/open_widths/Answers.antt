use Rattle.std.proofs.Common.{◌<◌, length, drop, arith}
use Rattle.std.proofs.Math.ListN.{drop_of_length-le}
use Rattle.lola_asked.specs.Setting.{GivenFits}
use Rattle.lola_asked.proofs.Vectors.{each_long, open_step, all_open}
use Rattle.lola_asked.proofs.setting.open_widths.Goals as goal

pub element_at-number-requires-clause-widths : goal.element_at-number-requires-clause-widths
element_at-number-requires-clause-widths c = let e = each_long GivenFits c.args.given.now c.args.widths.now c.requires in let h = c.loop-at-test.true in omega (arith, e, h)

pub loop-at-preserved : goal.loop-at-preserved
loop-at-preserved c =
    let e = each_long GivenFits c.args.given.now c.args.widths.now c.requires in
    let h = c.loop-at-test.true in
    let r = c.element_at-number.result in
    open_step c.args.given.now c.args.widths.now c.loop-at.at r.0 r.1 c.loop-at.made.items c.push_open.new.widths.items h c.element_at-number.ensures.given (omega (arith, e, h)) c.element_at-number.ensures.width c.in_ok-push_open.ensures c.loop-at.invariant

pub returns : goal.returns
returns c =
    let l = c.loop-at in
    all_open c.args.given.now c.args.widths.now (drop l.at c.args.given.now) (drop l.at c.args.widths.now) l.made.items (drop_of_length-le c.args.given.now c.loop-at-test.false) l.invariant
