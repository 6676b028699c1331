use Rattle.lola_cases.proofs.OneCase.{case_given, case_outside}
use Rattle.lola_cases.proofs.laws.cases_are_given.Goals as goal

pub returns-clause-given : goal.returns-clause-given
returns-clause-given c = λ F numbers formed is. case_given F numbers is

pub returns-clause-outside : goal.returns-clause-outside
returns-clause-outside c = λ F numbers formed is. case_outside F numbers is
