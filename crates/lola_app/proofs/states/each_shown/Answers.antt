use Rattle.lola_bits.proofs.Options.{same_fault}
use Rattle.small_tree.specs.Table.{state_tree}
use Rattle.lola_app.specs.Vectors.{interface_in}
use Rattle.lola_app.specs.Shown.{IsShown}
use Rattle.lola_app.specs.Small.{IsSmallState}
use Rattle.lola_app.proofs.ByRow.{all_at}
use Rattle.lola_app.proofs.ShownStates.{each_row}
use Rattle.lola_app.proofs.states.each_shown.Goals as goal

pub returns-in-Err-clause-none : goal.returns-in-Err-clause-none
returns-in-Err-clause-none c = λ e small.
    c.in-Err.ensures.none (same_fault _ _ e)
    (all_at (IsSmallState (interface_in c.args.face.now).registers) state_tree c.args.rows.now c.loop-row.row-index c.row-item.result c.loop-row-test.true c.row-item.is small)

pub loop-row-preserved : goal.loop-row-preserved
loop-row-preserved c =
    each_row (IsShown (interface_in c.args.face.now)) state_tree c.args.rows.now c.loop-row.row-index c.row-item.result c.loop-row.all.items c.push.new.self.items c.in-Ok.shown
    c.loop-row-test.true c.row-item.is c.in_ok-push-in-Ok.ensures.items c.loop-row.invariant c.in-Ok.ensures.ok
