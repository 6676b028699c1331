use Rattle.std.proofs.Common.{◌≡◌, ◌++◌}
use Rattle.lola_asked.proofs.block.push_rows.Given as goal

abbrev pub invariant-loop-row : goal.invariant-loop-row
invariant-loop-row l = l.table.items ++ l.row-iterator.rest.items ≡ l.initial.table.items ++ l.initial.row-iterator.rest.items
