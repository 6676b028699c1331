use Rattle.small_read.proofs.Fronts.{digit_next}
use Rattle.small_read.proofs.roles.take_digit.Goals as goal

pub returns-in-Some-clause-ok : goal.returns-in-Some-clause-ok
returns-in-Some-clause-ok c = digit_next c.args.here c.next-next.result _ _ c.in-Some.one c.next-next.ensures c.in-Number.is c.in-Some.ensures
