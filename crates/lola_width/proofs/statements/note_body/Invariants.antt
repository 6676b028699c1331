use Rattle.std.proofs.Common.{◌≡◌, drop, map}
use Rattle.lola_tree.specs.Tree.{stmt_tree}
use Rattle.lola_width.specs.NameFaults.{body_faults}
use Rattle.lola_width.specs.Order.{first_after}
use Rattle.lola_width.specs.Table.{found, seen_in}
use Rattle.lola_width.proofs.statements.note_body.Given as goal

abbrev pub invariant-loop-stmt : goal.invariant-loop-stmt
invariant-loop-stmt l =
    first_after l.first (body_faults (found l.table) (seen_in l.modules) l.clock.name (map stmt_tree (drop l.stmt-index l.body)))
    ≡ first_after l.fn.first (body_faults (found l.table) (seen_in l.modules) l.clock.name (map stmt_tree l.body))
