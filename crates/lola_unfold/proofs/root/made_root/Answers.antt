use Rattle.std.proofs.Common.{map, reverse}
use Rattle.lola_tree.specs.Tree.{module_tree}
use Rattle.lola_unfold.proofs.root.made_root.Goals as goal

pub returns : goal.returns
returns c = λ once. c.in_ok-made.ensures (reverse (map module_tree c.args.earlier.now)) c.in_ok-survey.ensures once
