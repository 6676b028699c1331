use Rattle.lola_elab.proofs.WellSized.{built_is_small, small_is_built}
use Rattle.lola_elab.proofs.laws.built_is_small.Goals as goal

pub returns-clause-small : goal.returns-clause-small
returns-clause-small c = built_is_small

pub returns-clause-built : goal.returns-clause-built
returns-clause-built c = small_is_built
