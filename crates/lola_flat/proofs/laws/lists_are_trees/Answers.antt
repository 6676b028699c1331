use Rattle.lola_flat.proofs.Rows.{join_is, apply_is}
use Rattle.lola_flat.proofs.laws.lists_are_trees.Goals as goal

pub returns-clause-join : goal.returns-clause-join
returns-clause-join c = join_is

pub returns-clause-apply : goal.returns-clause-apply
returns-clause-apply c = apply_is
