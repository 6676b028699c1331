use Rattle.std.proofs.Common.{◌≡◌, ◌<◌, ◌+◌, ℕ, List, [], ◌∷◌, Some, length, get_or, drop, take, set, ap, subst, sym, ◌∙◌, arith}
use Rattle.std.specs.Prelude.{slice_get}
use Rattle.std.proofs.lemmas.List.{length-map}
use Rattle.lola_flat.specs.Tree.{SignalTree, flat_tree, signal_tree}
use Rattle.lola_flat.specs.Value.{env}
use Rattle.lola_flat.specs.Signals.{IsSignal}
use Rattle.lola_lower.specs.Steps.{some_step, order_step}
use Rattle.lola_lower.specs.Ready.{SignalSuits, IsReady}
use Rattle.lola_lower.proofs.Ordering.{order_number, order_table, order_suits, order_more, step_more, order_done}
use Rattle.lola_lower.proofs.signals.lower_order.Goals as goal

pub lower_number-requires-clause-there : goal.lower_number-requires-clause-there
lower_number-requires-clause-there c =
    subst (λ n. get_or c.args.order.now c.loop-at.at 0 < n) (length-map c.args.flat.now.signals signal_tree)
    (order_number (flat_tree c.args.flat.now) c.requires.formed c.args.order.now c.requires.order c.loop-at.at c.loop-at-test.true)

pub lower_number-requires-clause-suits : goal.lower_number-requires-clause-suits
lower_number-requires-clause-suits c =
    subst (λ (t : List (List (List ℕ))). (s : SignalTree) → IsSignal (flat_tree c.args.flat.now) (get_or c.args.order.now c.loop-at.at 0) s → SignalSuits (env t []) s) (sym c.as_slice.ensures.value)
    (order_suits (flat_tree c.args.flat.now) c.requires.formed c.args.order.now c.requires.order c.loop-at.at c.loop-at-test.true c.loop-at.gates c.loop-at.table.items c.loop-at.invariant.ready)

pub index_mut-requires : goal.index_mut-requires
index_mut-requires c =
    let within = order_table (flat_tree c.args.flat.now) c.requires.formed c.args.order.now c.requires.order c.loop-at.at c.loop-at-test.true c.loop-at.gates c.loop-at.table.items c.loop-at.invariant.ready in
    omega (arith, ap length c.as_slice.ensures.value)

pub loop-at-preserved : goal.loop-at-preserved
loop-at-preserved c =
    let F = flat_tree c.args.flat.now in
    let table : List (List (List ℕ)) = c.loop-at.table.items in
    let step : some_step (env table []) (slice_get F.signals (get_or c.args.order.now c.loop-at.at 0)) c.loop-at.gates ≡ Some (c.lower_number.new.gates, c.in-Ok.bits) =
    subst (λ (t : List (List (List ℕ))). some_step (env t []) (slice_get F.signals (get_or c.args.order.now c.loop-at.at 0)) c.loop-at.gates ≡ Some (c.lower_number.new.gates, c.in-Ok.bits)) c.as_slice.ensures.value c.in-Ok.ensures in
    record {
      steps = c.loop-at.invariant.steps
          ∙ step_more F c.requires.formed c.args.order.now c.requires.order c.loop-at.at c.loop-at-test.true c.loop-at.gates table c.loop-at.invariant.ready c.lower_number.new.gates c.in-Ok.bits step
          ∙ ap (λ (x : List (List ℕ)). order_step F (env (set table (get_or c.args.order.now c.loop-at.at 0) x) []) (drop (c.loop-at.at + 1) c.args.order.now) c.lower_number.new.gates) (sym c.in-Ok-alone.ensures.ok);
      ready = subst (λ (x : List (List ℕ)). IsReady F (take (c.loop-at.at + 1) c.args.order.now) c.lower_number.new.gates (set table (get_or c.args.order.now c.loop-at.at 0) x)) (sym c.in-Ok-alone.ensures.ok)
          (order_more F c.requires.formed c.args.order.now c.requires.order c.loop-at.at c.loop-at-test.true c.loop-at.gates table c.loop-at.invariant.ready c.lower_number.new.gates c.in-Ok.bits step);
    }

pub returns-clause-ready : goal.returns-clause-ready
returns-clause-ready c =
    order_done (flat_tree c.args.flat.now) c.args.order.now c.requires.order c.loop-at.at c.loop-at-test.false c.loop-at.gates c.loop-at.table.items c.loop-at.invariant.ready
