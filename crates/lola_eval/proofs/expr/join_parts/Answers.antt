use Rattle.std.proofs.Common.{ap, subst, ◌∙◌}
use Rattle.lola_flat.specs.Tree.{expr_tree}
use Rattle.lola_flat.specs.Value.{Fits}
use Rattle.lola_eval.proofs.expr.join_parts.Goals as goal

pub returns-clause-is : goal.returns-clause-is
returns-clause-is c = ap expr_tree c.requires ∙ c.lists_are_trees.ensures.join c.args.parts.now

pub returns-clause-fits : goal.returns-clause-fits
returns-clause-fits c = λ W f. (subst (Fits W) (ap expr_tree c.requires ∙ c.lists_are_trees.ensures.join c.args.parts.now) f).1
