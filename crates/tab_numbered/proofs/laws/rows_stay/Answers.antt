use Rattle.tab_numbered.proofs.Stays.{rows_keep, values_keep, long_keeps}
use Rattle.tab_numbered.proofs.laws.rows_stay.Goals as goal

pub returns-clause-widths : goal.returns-clause-widths
returns-clause-widths c = λ W forms numbers es rows. rows_keep es W forms numbers rows

pub returns-clause-values : goal.returns-clause-values
returns-clause-values c = λ W N values numbers es holds. values_keep es W N values numbers holds

pub returns-clause-long : goal.returns-clause-long
returns-clause-long c = λ W N es long. long_keeps es W N long
