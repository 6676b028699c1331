use Rattle.std.proofs.Common.{map}
use Rattle.lola_bits.proofs.Options.{same_fault}
use Rattle.small_tree.specs.Table.{set_tree}
use Rattle.lola_app.specs.Fitting.{IsSetState}
use Rattle.lola_app.proofs.ShownStates.{each_item}
use Rattle.lola_app.proofs.rows.claimed_states.Goals as goal

pub returns-in-Err-clause-none : goal.returns-in-Err-clause-none
returns-in-Err-clause-none c = λ e names small. c.in-Err.ensures.none (same_fault _ _ e) names small

pub loop-state-preserved : goal.loop-state-preserved
loop-state-preserved c =
    each_item (IsSetState (map set_tree c.args.rows.now) c.args.scope.now) c.args.states.now c.loop-state.state-index c.state-item.result c.loop-state.claimed.items c.push.new.self.items c.in-Ok.one
    c.loop-state-test.true c.state-item.is c.in_ok-push-in-Ok.ensures.items c.loop-state.invariant c.in-Ok.ensures.ok
