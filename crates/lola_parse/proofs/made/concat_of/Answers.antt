use Rattle.std.proofs.Common.{refl}
use Rattle.lola_tree.proofs.Parts.{concat_tree}
use Rattle.lola_parse.proofs.made.concat_of.Goals as goal

pub returns : goal.returns
returns c = rw (c.in_ok-new.ensures.ok, concat_tree, c.of-parts.ensures) refl
