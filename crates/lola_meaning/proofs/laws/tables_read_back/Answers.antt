use Rattle.lola_meaning.proofs.ReadBack.{values_back, state_back}
use Rattle.lola_meaning.proofs.laws.tables_read_back.Goals as goal

pub returns-clause-values : goal.returns-clause-values
returns-clause-values c = λ S v x all there other. values_back S (λ y. c.one_path.ensures S y all) v x there other

pub returns-clause-state : goal.returns-clause-state
returns-clause-state c = λ S s x all there. state_back S (λ y. c.one_path.ensures S y all) s x there
