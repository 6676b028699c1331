use Rattle.lola_states.proofs.InputsFirst.{inputs_first, case_is, state_is}
use Rattle.lola_states.proofs.laws.inputs_stand_first.Goals as goal

pub returns-clause-free : goal.returns-clause-free
returns-clause-free c = inputs_first

pub returns-clause-case : goal.returns-clause-case
returns-clause-case c = case_is

pub returns-clause-state : goal.returns-clause-state
returns-clause-state c = state_is
