use Rattle.std.proofs.Common.{◌<◌, ◌≤◌, ◌+◌, ◌-◌, ◌∙◌, length, drop, ap, arith}
use Rattle.std.proofs.Math.ListN.{drop_of_length-le}
use Rattle.lola_flat.specs.Value.{sum_of}
use Rattle.lola_asked.specs.Setting.{GivenFits, open_one}
use Rattle.lola_asked.proofs.Vectors.{each_long, vectors_step, vectors_fit, all_vectors}
use Rattle.lola_asked.proofs.bits.vectors_of.Goals as goal

pub element_at-number-requires-clause-widths : goal.element_at-number-requires-clause-widths
element_at-number-requires-clause-widths c = let e = each_long GivenFits c.args.given.now c.args.widths.now c.requires.each in let h = c.loop-at-test.true in omega (arith, e, h)

pub overflow_sub-left : goal.overflow_sub-left
overflow_sub-left c =
    let e = each_long GivenFits c.args.given.now c.args.widths.now c.requires.each in
    let h = c.loop-at-test.true in
    let r = c.element_at-number.result in
    let fit = vectors_fit c.args.given.now c.args.widths.now c.loop-at.at r.0 r.1 c.loop-at.left c.loop-at.vectors.items h c.element_at-number.ensures.given (omega (arith, e, h)) c.element_at-number.ensures.width c.loop-at.invariant in
    let few = fit.0 in
    let taken = c.open_bits.ensures in
    omega (arith, few, taken)

pub vector_of-requires : goal.vector_of-requires
vector_of-requires c =
    let e = each_long GivenFits c.args.given.now c.args.widths.now c.requires.each in
    let h = c.loop-at-test.true in
    let r = c.element_at-number.result in
    let fit = vectors_fit c.args.given.now c.args.widths.now c.loop-at.at r.0 r.1 c.loop-at.left c.loop-at.vectors.items h c.element_at-number.ensures.given (omega (arith, e, h)) c.element_at-number.ensures.width c.loop-at.invariant in
    let few = fit.0 in
    let small = fit.1 in
    let taken = c.open_bits.ensures in
    omega (arith, few, small, taken)

pub loop-at-preserved : goal.loop-at-preserved
loop-at-preserved c =
    let e = each_long GivenFits c.args.given.now c.args.widths.now c.requires.each in
    let h = c.loop-at-test.true in
    let r = c.element_at-number.result in
    vectors_step c.args.given.now c.args.widths.now c.loop-at.at r.0 r.1 c.loop-at.left (c.loop-at.left - c.open_bits.result) c.loop-at.vectors.items c.push.new.self.items c.in_ok-vector_of.field-0 h c.element_at-number.ensures.given (omega (arith, e, h))
    c.element_at-number.ensures.width (ap (λ n. c.loop-at.left - n) c.open_bits.ensures) c.in_ok-vector_of.ensures c.in_ok-push.ensures.items c.loop-at.invariant

pub returns : goal.returns
returns c =
    let l = c.loop-at in
    all_vectors c.args.given.now c.args.widths.now (drop l.at c.args.given.now) (drop l.at c.args.widths.now) l.left l.vectors.items (drop_of_length-le c.args.given.now c.loop-at-test.false) l.invariant
