use Rattle.tab_lists.proofs.Listed.{listed}
use Rattle.tab_lists.proofs.executions_are_lists.Goals as goal

pub returns-clause-listed : goal.returns-clause-listed
returns-clause-listed c = λ T answers A i ordered. listed T answers A i ordered

pub returns-clause-fitting : goal.returns-clause-fitting
returns-clause-fitting c = λ S T fitting. record { apart = fitting.apart; plain = fitting.phases.first }
