use Rattle.std.proofs.Common.{◌≡◌, ◌++◌, ◌∷◌, [], List, ap, subst, ◌∙◌}
use Rattle.std.specs.Prelude.{Some}
use Rattle.lola_alg.specs.Steps.{write_from}
use Rattle.lola_alg.specs.Gates.{write_here}
use Rattle.lola_alg.proofs.Loops.{stays_then, array_more}
use Rattle.lola_alg.proofs.Elements.{write_more}
use Rattle.lola_alg.proofs.arrays.written.Goals as goal

pub loop-at-preserved : goal.loop-at-preserved
loop-at-preserved g c =
    let a = g.A.Algebra in
    let d = a.state c.loop-at.alg in
    let items : c.push.new.self.items ≡ c.loop-at.made.items ++ c.in-Ok.element.items ∷ [] = c.in_default.ensures.items ∙ ap (λ (v : List g.row.A-Bit.Denot). c.loop-at.made.items ++ v ∷ []) c.of.ensures in
    let step = subst (λ old. write_here a.calls c.args.place.now c.args.value.now c.loop-at.at old d ≡ Some (a.state c.rewritten.new.alg, c.in-Ok.element.items)) c.items.ensures c.in-Ok.ensures.steps in
    record {
      steps =
          write_more a.calls c.args.place.now c.args.value.now c.args.elements.now c.loop-at.at c.index-elements-at.result d (a.state c.rewritten.new.alg) c.loop-at.made.items
          (write_from a.calls c.args.place.now c.args.value.now 0 c.args.elements.now (a.state c.args.alg.now)) c.in-Ok.element.items c.loop-at-test.true c.index-elements-at.is step
          c.loop-at.invariant.steps c.push.new.self.items items;
      stays = stays_then a.meaning (a.state c.args.alg.now) d (a.state c.rewritten.new.alg) c.loop-at.invariant.stays c.in-Ok.ensures.kept.0;
      known =
          array_more a.meaning d (a.state c.rewritten.new.alg) c.loop-at.made.items c.in-Ok.element.items c.in-Ok.ensures.kept.0 c.loop-at.invariant.known c.in-Ok.ensures.kept.1
          c.push.new.self.items items;
    }
