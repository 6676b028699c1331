use Rattle.lola_gate.proofs.Lowered.{op_repeated, read_repeated, write_repeated}
use Rattle.lola_gate.proofs.laws.steps_repeat.Goals as goal

pub returns-clause-op : goal.returns-clause-op
returns-clause-op c = λ o args. op_repeated o args

pub returns-clause-read : goal.returns-clause-read
returns-clause-read c = λ elements place. read_repeated elements place

pub returns-clause-write : goal.returns-clause-write
returns-clause-write c = λ place value elements. write_repeated place value 0 elements
