use Rattle.small_read.proofs.Fronts.{name_next}
use Rattle.small_read.proofs.rows.is_at_name.Goals as goal

pub returns-in-Name-clause-yes : goal.returns-in-Name-clause-yes
returns-in-Name-clause-yes c = λ is lacks. lacks.lacks _ _ (name_next c.args.here.now c.next.result c.next.ensures c.in-Name.is)
