use Rattle.std.proofs.Common.{◌≡◌, ◌*◌, ◌+◌, ◌<◌, ◌++◌, ◌∷◌, [], List, length, sym, ap, ap₂, ◌∙◌, arith}
use Rattle.lola_alg.specs.Steps.{pairs_step, choose_step, halve_step}
use Rattle.lola_alg.proofs.Loops.{stays_then, array_more}
use Rattle.lola_alg.proofs.Elements.{fails_on, halve_more, halve_fails, halve_done, wide_more}
use Rattle.lola_alg.proofs.arrays.halved.Goals as goal

pub returns-in-Err-clause-steps : goal.returns-in-Err-clause-steps
returns-in-Err-clause-steps g c =
    let a = g.A.Algebra in
    let d = a.state c.loop-at.alg in
    let x = c.index-elements-at.result in
    let y = c.index-elements-at-in-loop-at.result in
    let within : 2 * c.loop-at.at + 1 < length c.args.elements.now = let test = c.loop-at-test.true in omega arith in
    let sides = ap₂ (λ us vs. pairs_step (choose_step a.calls c.args.test) us vs d) c.items-odd.ensures c.items-even.ensures in
    fails_on (pairs_step (choose_step a.calls c.args.test) c.items-odd.result.now c.items-even.result.now d)
    (halve_step a.calls c.args.test c.args.elements.now (a.state c.args.alg.now)) c.in-Err.error
    (λ none. halve_fails a.calls c.args.test c.args.elements.now c.loop-at.at x y d c.loop-at.half.items (halve_step a.calls c.args.test c.args.elements.now (a.state c.args.alg.now)) within
    c.index-elements-at.is c.index-elements-at-in-loop-at.is (sym sides ∙ none) c.loop-at.invariant.steps)
    c.in-Err.ensures.steps

pub loop-at-preserved : goal.loop-at-preserved
loop-at-preserved g c =
    let a = g.A.Algebra in
    let d = a.state c.loop-at.alg in
    let x = c.index-elements-at.result in
    let y = c.index-elements-at-in-loop-at.result in
    let within : 2 * c.loop-at.at + 1 < length c.args.elements.now = let test = c.loop-at-test.true in omega arith in
    let sides = ap₂ (λ us vs. pairs_step (choose_step a.calls c.args.test) us vs d) c.items-odd.ensures c.items-even.ensures in
    let items : c.push.new.self.items ≡ c.loop-at.half.items ++ c.in-Ok.chosen.items ∷ [] = c.in_default.ensures.items ∙ ap (λ (v : List g.row.A-Bit.Denot). c.loop-at.half.items ++ v ∷ []) c.of.ensures in
    record {
      steps =
          halve_more a.calls c.args.test c.args.elements.now c.loop-at.at x y d c.loop-at.half.items (halve_step a.calls c.args.test c.args.elements.now (a.state c.args.alg.now))
          (a.state c.pairs.new.alg) c.in-Ok.chosen.items within c.index-elements-at.is c.index-elements-at-in-loop-at.is (sym sides ∙ c.in-Ok.ensures.steps) c.loop-at.invariant.steps
          c.push.new.self.items items;
      stays = stays_then a.meaning (a.state c.args.alg.now) d (a.state c.pairs.new.alg) c.loop-at.invariant.stays c.in-Ok.ensures.kept.0;
      known =
          array_more a.meaning d (a.state c.pairs.new.alg) c.loop-at.half.items c.in-Ok.chosen.items c.in-Ok.ensures.kept.0 c.loop-at.invariant.known c.in-Ok.ensures.kept.1
          c.push.new.self.items items;
      wide = λ width all. wide_more width c.args.elements.now (2 * c.loop-at.at + 1) y c.loop-at.half.items c.in-Ok.chosen.items within c.index-elements-at-in-loop-at.is all
          (c.in-Ok.ensures.long ∙ ap length c.items-odd.ensures) (c.loop-at.invariant.wide width all) c.push.new.self.items items;
    }

pub returns-clause-steps : goal.returns-clause-steps
returns-clause-steps g c =
    let a = g.A.Algebra in
    halve_done a.calls c.args.test c.args.elements.now c.loop-at.at (a.state c.loop-at.alg) c.loop-at.half.items
    (halve_step a.calls c.args.test c.args.elements.now (a.state c.args.alg.now)) c.loop-at-test.false c.loop-at.invariant.steps
