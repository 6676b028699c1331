-- Lemmas on the parts of a concatenation.
use Rattle.std.proofs.Common.{◌≡◌, List, [], ◌∷◌, ◌++◌, refl, ap}
use Rattle.lola_tree.specs.declared.expr.Part.{Part}
use Rattle.lola_tree.specs.Tree.{tree, parts_tree, one_part}
use Rattle.lola_parse.specs.Grammar.{with_part}

-- one part more at the end
pub parts_more : (parts : List Part) (p : Part) → parts_tree (parts ++ p ∷ []) ≡ with_part (parts_tree parts) (tree p.value) p.times
parts_more [] p = refl
parts_more (q ∷ more) p = ap (one_part (tree q.value) q.times) (parts_more more p)
