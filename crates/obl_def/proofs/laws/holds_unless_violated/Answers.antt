use Rattle.obl_def.proofs.Violated.{one_of_two, all_of_none}
use Rattle.obl_def.proofs.laws.holds_unless_violated.Goals as goal

pub returns-clause-one : goal.returns-clause-one
returns-clause-one c = λ S T o w none. one_of_two S T o w none

pub returns-clause-all : goal.returns-clause-all
returns-clause-all c = λ S T none. all_of_none S T none
