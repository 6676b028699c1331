use Rattle.std.proofs.Common.{◌≡◌, drop}
use Rattle.tab_tree.specs.Names.{mapped}
use Rattle.tab_mach.specs.Known.{last_value, value_of}
use Rattle.tab_mach.proofs.known.last_given.Given as goal

abbrev pub invariant-loop-row : goal.invariant-loop-row
invariant-loop-row l = last_value (drop l.row-index l.rows) l.name (mapped value_of l.found) ≡ last_value l.rows l.name (mapped value_of l.fn.before)
