use Rattle.lola_order.proofs.Orders.{one_order, no_loop}
use Rattle.lola_order.proofs.laws.one_order.Goals as goal

pub returns-clause-one : goal.returns-clause-one
returns-clause-one c = one_order

pub returns-clause-acyclic : goal.returns-clause-acyclic
returns-clause-acyclic c = no_loop
