use Rattle.std.proofs.Common.{◌≡◌, drop}
use Rattle.lola_tree.specs.Tree.{parts_tree}
use Rattle.lola_flat.specs.Tree.{expr_trees}
use Rattle.lola_width.specs.Table.{found}
use Rattle.lola_unfold.specs.Translated.{translated_parts}
use Rattle.lola_unfold.specs.Slots.{number_from}
use Rattle.lola_unfold.proofs.Rows.{followed}
use Rattle.lola_unfold.proofs.expression.+translate.Given as goal

abbrev pub invariant-translate_parts-loop-part : goal.invariant-translate_parts-loop-part
invariant-translate_parts-loop-part l =
    followed (expr_trees l.made) (translated_parts (found l.names) (number_from l.base) (parts_tree (drop l.part-index l.parts)))
    ≡ translated_parts (found l.names) (number_from l.base) (parts_tree l.parts)
