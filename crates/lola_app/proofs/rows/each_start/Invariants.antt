use Rattle.std.proofs.Common.{take, map}
use Rattle.lola_bits.specs.Lists.{AreEach}
use Rattle.small_tree.specs.Table.{set_tree}
use Rattle.lola_app.specs.Starts.{IsStartRow}
use Rattle.lola_app.proofs.rows.each_start.Given as goal

-- the rows so far
abbrev pub invariant-loop-row : goal.invariant-loop-row
invariant-loop-row l = AreEach (IsStartRow l.states) (map set_tree (take l.row-index l.rows)) l.starts.items
