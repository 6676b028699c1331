use Rattle.std.proofs.Common.{◌≡◌, drop}
use Rattle.lola_tree.specs.Tree.{parts_tree}
use Rattle.lola_width.specs.NameFaults.{part_faults}
use Rattle.lola_width.specs.Order.{first_after}
use Rattle.lola_width.specs.Table.{found}
use Rattle.lola_width.proofs.names.+names.Given as goal

abbrev pub invariant-note_parts-loop-part : goal.invariant-note_parts-loop-part
invariant-note_parts-loop-part l =
    first_after l.first (part_faults (found l.table) l.clock.name (parts_tree (drop l.part-index l.parts)))
    ≡ first_after l.fn.first (part_faults (found l.table) l.clock.name (parts_tree l.parts))
