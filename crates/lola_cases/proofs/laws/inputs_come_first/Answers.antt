use Rattle.lola_cases.proofs.InputsFirst.{inputs_first}
use Rattle.lola_cases.proofs.laws.inputs_come_first.Goals as goal

pub returns : goal.returns
returns c = inputs_first
