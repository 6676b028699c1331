use Rattle.lola_cases.proofs.Orders.{counted, met, before_spelled, spelled_before}
use Rattle.lola_cases.proofs.laws.counting.Goals as goal

pub returns-clause-counted : goal.returns-clause-counted
returns-clause-counted c = counted

pub returns-clause-met : goal.returns-clause-met
returns-clause-met c = met

pub returns-clause-order : goal.returns-clause-order
returns-clause-order c = λ ws ms ns a b. (before_spelled ws ms ns a b, spelled_before ws ms ns a b)
