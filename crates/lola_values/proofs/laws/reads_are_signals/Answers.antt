use Rattle.lola_regular.proofs.Clean.{all_clean, all_written}
use Rattle.lola_values.proofs.Sides.{flat_reads, update_reads}
use Rattle.lola_values.proofs.laws.reads_are_signals.Goals as goal

pub returns-clause-equations : goal.returns-clause-equations
returns-clause-equations c = λ S e sized written clocked there. flat_reads S (all_clean S sized) (all_written S written) clocked e there

pub returns-clause-updates : goal.returns-clause-updates
returns-clause-updates c = λ S u sized written clocked there. update_reads S (all_clean S sized) (all_written S written) clocked u there
