use Rattle.std.proofs.Common.{◌≡◌, ◌<◌, ◌+◌, List, Some, length, get_or, drop, take, set, ap, subst, sym, ◌∙◌, arith}
use Rattle.std.proofs.lemmas.List.{length-map}
use Rattle.lola_flat.specs.Tree.{ExprTree, flat_tree, signal_tree}
use Rattle.lola_flat.specs.Value.{env, mapped, Fits}
use Rattle.lola_eval.specs.Steps.{equation_of, equation_step, signals_step}
use Rattle.lola_eval.specs.Means.{MeansValue}
use Rattle.lola_eval.proofs.Placed.{Placed}
use Rattle.lola_eval.proofs.Ordering.{order_number, order_fits, order_table, order_more, order_done, step_more}
use Rattle.lola_eval.proofs.signals.lower_order.Goals as goal

pub lower_signal-requires-clause-there : goal.lower_signal-requires-clause-there
lower_signal-requires-clause-there g c =
    let a = g.A.Algebra in
    subst (λ n. get_or c.args.order.now c.loop-at.at 0 < n) (length-map c.args.flat.now.signals signal_tree)
    (order_number (flat_tree c.args.flat.now) c.requires.formed a.meaning (env c.args.given.items c.args.outside.now) (a.state c.args.alg.now) c.requires.given c.requires.known c.args.order.now c.requires.order c.loop-at.at c.loop-at-test.true)

pub lower_signal-requires-clause-fits : goal.lower_signal-requires-clause-fits
lower_signal-requires-clause-fits g c =
    let a = g.A.Algebra in
    subst (λ (t : List (List (List g.row.A-Bit.Denot))). (e : ExprTree) → equation_of (flat_tree c.args.flat.now) (get_or c.args.order.now c.loop-at.at 0) ≡ Some e → Fits (mapped length (env t c.args.outside.now)) e) (sym c.as_slice.ensures.value)
    (order_fits (flat_tree c.args.flat.now) c.requires.formed a.meaning (env c.args.given.items c.args.outside.now) (a.state c.args.alg.now) c.requires.given c.requires.known c.args.order.now c.requires.order c.loop-at.at c.loop-at-test.true
    (a.state c.loop-at.alg) c.loop-at.table.items c.loop-at.invariant.placed)

pub index_mut-requires : goal.index_mut-requires
index_mut-requires g c =
    let a = g.A.Algebra in
    let within = order_table (flat_tree c.args.flat.now) c.requires.formed a.meaning (env c.args.given.items c.args.outside.now) (a.state c.args.alg.now) c.requires.given c.requires.known c.args.order.now c.requires.order c.loop-at.at c.loop-at-test.true
    (a.state c.loop-at.alg) c.loop-at.table.items c.loop-at.invariant.placed in
    omega (arith, ap length c.as_slice.ensures.value)

pub loop-at-preserved : goal.loop-at-preserved
loop-at-preserved g c =
    let a = g.A.Algebra in
    let table : List (List (List g.row.A-Bit.Denot)) = c.loop-at.table.items in
    let step : equation_step a.calls (env table c.args.outside.now) (equation_of (flat_tree c.args.flat.now) (get_or c.args.order.now c.loop-at.at 0)) (a.state c.loop-at.alg) ≡ Some (a.state c.lower_signal.new.alg, c.in-Ok.bits) =
    subst (λ (t : List (List (List g.row.A-Bit.Denot))). equation_step a.calls (env t c.args.outside.now) (equation_of (flat_tree c.args.flat.now) (get_or c.args.order.now c.loop-at.at 0)) (a.state c.loop-at.alg) ≡ Some (a.state c.lower_signal.new.alg, c.in-Ok.bits)) c.as_slice.ensures.value c.in-Ok.ensures.steps in
    let means : (e : ExprTree) → equation_of (flat_tree c.args.flat.now) (get_or c.args.order.now c.loop-at.at 0) ≡ Some e → MeansValue a.meaning (env table c.args.outside.now) e (a.state c.loop-at.alg) (a.state c.lower_signal.new.alg, c.in-Ok.bits) =
    subst (λ (t : List (List (List g.row.A-Bit.Denot))). (e : ExprTree) → equation_of (flat_tree c.args.flat.now) (get_or c.args.order.now c.loop-at.at 0) ≡ Some e → MeansValue a.meaning (env t c.args.outside.now) e (a.state c.loop-at.alg) (a.state c.lower_signal.new.alg, c.in-Ok.bits)) c.as_slice.ensures.value c.in-Ok.ensures.means in
    record {
      steps = c.loop-at.invariant.steps
          ∙ step_more a.calls (flat_tree c.args.flat.now) table c.args.outside.now c.args.order.now c.loop-at.at (a.state c.loop-at.alg) c.loop-at-test.true (a.state c.lower_signal.new.alg) c.in-Ok.bits step
          ∙ ap (λ (x : List (List g.row.A-Bit.Denot)). signals_step a.calls (flat_tree c.args.flat.now) (env (set table (get_or c.args.order.now c.loop-at.at 0) x) c.args.outside.now) (drop (c.loop-at.at + 1) c.args.order.now) (a.state c.lower_signal.new.alg)) (sym c.in-Ok-alone.ensures.ok);
      placed = subst (λ (x : List (List g.row.A-Bit.Denot)). Placed (flat_tree c.args.flat.now) a.meaning (env c.args.given.items c.args.outside.now) (a.state c.args.alg.now) (take (c.loop-at.at + 1) c.args.order.now) (a.state c.lower_signal.new.alg) (set table (get_or c.args.order.now c.loop-at.at 0) x)) (sym c.in-Ok-alone.ensures.ok)
          (order_more (flat_tree c.args.flat.now) c.requires.formed a.meaning (env c.args.given.items c.args.outside.now) (a.state c.args.alg.now) c.requires.given c.requires.known c.args.order.now c.requires.order c.loop-at.at c.loop-at-test.true
          (a.state c.loop-at.alg) table c.loop-at.invariant.placed (a.state c.lower_signal.new.alg) c.in-Ok.bits means);
    }

pub returns-clause-means : goal.returns-clause-means
returns-clause-means g c =
    let a = g.A.Algebra in
    order_done (flat_tree c.args.flat.now) c.requires.formed a.meaning (env c.args.given.items c.args.outside.now) (a.state c.args.alg.now) c.requires.given c.requires.known c.args.order.now c.requires.order c.loop-at.at c.loop-at-test.false
    (a.state c.loop-at.alg) c.loop-at.table.items c.loop-at.invariant.placed
