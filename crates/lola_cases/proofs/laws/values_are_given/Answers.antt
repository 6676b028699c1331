use Rattle.lola_cases.proofs.Values.{values_are_case, gives_values}
use Rattle.lola_cases.proofs.laws.values_are_given.Goals as goal

pub returns-clause-case : goal.returns-clause-case
returns-clause-case c = values_are_case

pub returns-clause-given : goal.returns-clause-given
returns-clause-given c = gives_values
