-- The parts of a concatenation, as a list and in a tree.
use Rattle.std.proofs.Common.{◌≡◌, ℕ, List, refl, ap, ◌∙◌}
use Rattle.lola_tree.specs.declared.expr.Part.{Part}
use Rattle.lola_tree.specs.declared.expr.Expr.{Concat}
use Rattle.lola_tree.specs.declared.expr.Expr.TheBlock.{Row_of-Part, end_of-Part, more_of-Part, items-the_row-Part, hidden-the_row-Part-0, items_hidden-the_row-Part-0}
use Rattle.lola_tree.specs.Tree.{tree, part_trees, parts_tree, concat, one_part}

-- the row that a tree holds is the list
row_trees : {m : _} (row : Row_of-Part m) → part_trees row ≡ parts_tree (items-the_row-Part m row)
row_trees end_of-Part = refl
row_trees (more_of-Part value times rest) = ap (one_part (tree value) times) (row_trees rest)

pub concat_tree : (parts : List Part) (at : ℕ) → tree (Concat parts at) ≡ concat (parts_tree parts) at
concat_tree parts at = ap (λ ps. concat ps at) (row_trees (hidden-the_row-Part-0 parts) ∙ ap parts_tree (items_hidden-the_row-Part-0 parts))
