-- A part of a concatenation, as the code holds it.
use Rattle.lola_tree.specs.declared.expr.Part.{Part}
use Rattle.lola_tree.specs.declared.named.Count.{Count}
use Rattle.lola_tree.specs.Tree.{Tree, tree}

-- a part as definitions read it, with how often it stands there
abbrev pub part_tree : Part → Tree × Count
part_tree p = (tree p.value, p.times)
