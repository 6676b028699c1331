use Rattle.std.proofs.Common.{rules, ◌<◌, ◌+◌, ◌&&◌, [], ◌∷◌, ◌++◌, length, sym, ap, ap₂, subst, ◌∙◌}
use Rattle.std.proofs.Math.ListN.{get_or}
use Rattle.lola_net.specs.Literals.{at_literal}
use Rattle.lola_gate.specs.Evaluated.{Evaluated}
use Rattle.lola_gate.proofs.Evals.{gate_evaluated, free_evaluated}
use Rattle.lola_gate.proofs.gates.Gates.eval.Goals as goal
use Rattle.lola_gate.proofs.gates.Gates.eval.Goals.{then-pair-gt1, else-pair-gt1}

pub loop-pair-preserved : goal.loop-pair-preserved
loop-pair-preserved c =
    let held = c.deref-pair-items.result.now in
    let i = c.loop-pair.pair-index in
    let all = c.loop-pair.all.items in
    let e = c.loop-pair.invariant in
    let inside : i < length held = search rules in
    rw c.in-Ok.ensures.items (elim c.if-pair-gt1.branch [
      | then-pair-gt1 w ↦ rw (w.value-is, w.at-is) (
          let one = w.literal.ensures ∙ ap (λ xs. at_literal xs (get_or held i (0, 0)).0) w.as_slice.ensures.value in
          let two = w.literal-then-pair-gt1.ensures ∙ ap (λ xs. at_literal xs (get_or held i (0, 0)).1) w.as_slice-then-pair-gt1.ensures.value in
          subst (λ b. Evaluated c.args.self.now held c.args.free.now (all ++ b ∷ []) (i + 1) c.loop-pair.at) (sym (ap₂ (λ x y. x && y) one two))
          (gate_evaluated c.args.self.now held c.args.free.now all i c.loop-pair.at e inside w.if-pair-gt1.true))
      | else-pair-gt1 w ↦ rw (w.value-is, w.at-is) (free_evaluated c.args.self.now held c.args.free.now all i c.loop-pair.at e inside w.if-pair-gt1.false)
    ])
