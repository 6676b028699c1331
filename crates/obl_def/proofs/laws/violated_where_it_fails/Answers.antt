use Rattle.obl_def.proofs.Violated.{not_both_of, none_of_all}
use Rattle.obl_def.proofs.laws.violated_where_it_fails.Goals as goal

pub returns-clause-one : goal.returns-clause-one
returns-clause-one c = λ S T o w holds violated. not_both_of S T o w holds violated

pub returns-clause-all : goal.returns-clause-all
returns-clause-all c = λ S T all o is w suits violated. none_of_all S T all o is w suits violated
