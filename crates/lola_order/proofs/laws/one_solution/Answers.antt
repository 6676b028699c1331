use Rattle.lola_order.proofs.Solving.{one_solution, a_solution, along}
use Rattle.lola_order.proofs.laws.one_solution.Goals as goal

pub returns-clause-exists : goal.returns-clause-exists
returns-clause-exists g c = λ graph f order base hangs is. (λ j. along graph f hangs base order j, a_solution graph f hangs order base is)

pub returns-clause-same : goal.returns-clause-same
returns-clause-same g c = λ graph f order base v w hangs is p q. one_solution graph f hangs order base v w is p q
