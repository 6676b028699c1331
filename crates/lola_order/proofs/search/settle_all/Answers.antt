use Rattle.std.proofs.Common.{ℕ, ◌+◌, List, drop, ◌∙◌, subst}
use Rattle.std.proofs.lemmas.List.{drop_more}
use Rattle.lola_order.specs.State.{IsSearch}
use Rattle.lola_order.proofs.search.settle_all.Goals as goal

pub loop-signal-preserved : goal.loop-signal-preserved
loop-signal-preserved c =
    let i = c.loop-signal.signal-index in
    record {
      state = c.in-Ok.ensures.state (drop (i + 1) c.args.signals.now)
          (subst (λ (l : List ℕ). IsSearch c.args.graph.now c.loop-signal.search l) (drop_more c.args.signals.now i 0 c.loop-signal-test.true) c.loop-signal.invariant.state);
      met = c.settle.ensures.met ∙ c.loop-signal.invariant.met;
    }
