use Rattle.lola_elab.proofs.Evaluates.{leaf_copied}
use Rattle.lola_elab.proofs.evaluate.+flat_bits.Goals as goal

pub returns-in-Leaf : goal.returns-in-Leaf
returns-in-Leaf t c = leaf_copied c.args.leaves.now c.copied.result c.args.flat.now c.in-Leaf.number c.index-leaves-number.result _ c.in-Leaf.is c.requires c.index-leaves-number.is c.items.ensures c.copied.ensures
