use Rattle.std.proofs.Common.{◌≡◌, drop}
use Rattle.lola_tree.specs.Tree.{parts_tree}
use Rattle.lola_flat.specs.Tree.{expr_trees}
use Rattle.lola_renamed.specs.Renamed.{renamed_parts}
use Rattle.lola_renamed.proofs.Rows.{followed}
use Rattle.lola_renamed.proofs.expression.+rename.Given as goal

abbrev pub invariant-rename_parts-loop-part : goal.invariant-rename_parts-loop-part
invariant-rename_parts-loop-part g l =
    followed (expr_trees l.made) (renamed_parts (g.R.Reading.meant l.names) (parts_tree (drop l.part-index l.parts)))
    ≡ renamed_parts (g.R.Reading.meant l.names) (parts_tree l.parts)
