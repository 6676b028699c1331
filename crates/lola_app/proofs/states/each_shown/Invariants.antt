use Rattle.std.proofs.Common.{map, take}
use Rattle.lola_bits.specs.Lists.{AreEach}
use Rattle.small_tree.specs.Table.{state_tree}
use Rattle.lola_app.specs.Shown.{IsShown}
use Rattle.lola_app.specs.Vectors.{interface_in}
use Rattle.lola_app.proofs.states.each_shown.Given as goal

-- the states so far are shown
abbrev pub invariant-loop-row : goal.invariant-loop-row
invariant-loop-row l = AreEach (IsShown (interface_in l.face)) (map state_tree (take l.row-index l.rows)) l.all.items
