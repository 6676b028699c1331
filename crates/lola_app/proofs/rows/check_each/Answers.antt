use Rattle.std.proofs.Common.{map, string_bytes}
use Rattle.lola_bits.proofs.Options.{same_fault}
use Rattle.lola_elab.specs.Scope.{HasReading}
use Rattle.small_tree.specs.Table.{set_tree}
use Rattle.lola_app.specs.declared.states.Shown.{Shown}
use Rattle.lola_app.specs.Small.{IsSmallRow}
use Rattle.lola_app.proofs.ByRow.{all_at, all_row}
use Rattle.lola_app.proofs.rows.check_each.Goals as goal

pub returns-in-Err-clause-none : goal.returns-in-Err-clause-none
returns-in-Err-clause-none c = λ e small.
    c.in-Err.ensures.none (same_fault _ _ e)
    (all_at (IsSmallRow (map (λ (s : Shown). string_bytes s.name) c.args.states.now) (HasReading c.args.scope.now)) set_tree c.args.rows.now c.loop-row.row-index c.row-item.result c.loop-row-test.true c.row-item.is small)

pub loop-row-preserved : goal.loop-row-preserved
loop-row-preserved c =
    all_row (IsSmallRow (map (λ (s : Shown). string_bytes s.name) c.args.states.now) (HasReading c.args.scope.now)) set_tree c.args.rows.now c.loop-row.row-index c.row-item.result
    c.loop-row-test.true c.row-item.is c.loop-row.invariant c.in-Ok.ensures.ok
