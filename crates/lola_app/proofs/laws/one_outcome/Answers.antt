use Rattle.lola_app.proofs.OneOutcome.{one_outcome_is}
use Rattle.lola_app.proofs.laws.one_outcome.Goals as goal

pub returns : goal.returns
returns c = λ words files before now a b below p q u v.
    one_outcome_is c.one_reading.ensures c.one_tree.ensures c.one_table.ensures c.built_is_small.ensures.built words files before now below a b p q u v
