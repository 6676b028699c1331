use Rattle.std.proofs.Common.{sym, ◌∙◌}
use Rattle.lola_tree.specs.Tree.{source_tree}
use Rattle.lola_width.proofs.Faults.{well_sized}
use Rattle.lola_width.proofs.check.sizes.Goals as goal

pub returns-in-None-clause-ok : goal.returns-in-None-clause-ok
returns-in-None-clause-ok c = well_sized (source_tree c.args.source.now) (sym c.in_ok-first_of.ensures ∙ c.in-None.is)
