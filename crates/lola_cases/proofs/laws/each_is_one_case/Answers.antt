use Rattle.lola_cases.proofs.OneCase.{one_case}
use Rattle.lola_cases.proofs.laws.each_is_one_case.Goals as goal

pub returns : goal.returns
returns c = λ F given outside formed fits outer. one_case F given outside fits outer
