use Rattle.lola_gate.proofs.Again.{gates_repeat}
use Rattle.lola_gate.proofs.laws.calls_repeat.Goals as goal

pub returns : goal.returns
returns c = gates_repeat
