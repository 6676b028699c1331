use Rattle.std.proofs.Common.{length, refl}
use Rattle.tab_numbered.proofs.Rows.{rows_behind, all_behind}
use Rattle.tab_numbered.proofs.laws.rows_hold.Goals as goal

pub returns-clause-rows : goal.returns-clause-rows
returns-clause-rows c = λ W forms numbers rows are.
    rows_behind c.expressions_mean.ensures.fits c.expressions_mean.ensures.value c.names_have_values.ensures.vector c.names_have_values.ensures.rows rows W forms numbers (length W.signals) refl are

pub returns-clause-values : goal.returns-clause-values
returns-clause-values c = λ W N forms values numbers rows are_rows are holds long.
    (all_behind c.expressions_mean.ensures.fits c.expressions_mean.ensures.value c.names_have_values.ensures.vector c.names_have_values.ensures.rows rows W N forms values numbers (length W.signals) refl
    (record { rows = are_rows; are = are; holds = holds; long = long })).holds
