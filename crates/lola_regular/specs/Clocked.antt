-- The clock of each module: the names that designs on paths have as its clocks are the one that its faults are
-- found with, if there is one.
use Rattle.std.specs.Prelude.{◌≡◌, ◌↔◌, ℕ, List, [], ◌∷◌, Some}
use Rattle.lola_bits.specs.Lists.{IsIn}
use Rattle.lola_tree.specs.Tree.{ModuleTree}
use Rattle.lola_tree.specs.design.Clocks.{clocks_in, clock_ports}
use Rattle.lola_width.specs.Interface.{Seen, no_module}
use Rattle.lola_width.specs.Sized.{clock_in, seen_after}

-- what is seen behind modules; they stand in reverse order, the nearest first
abbrev pub seen_behind : List ModuleTree → Seen
seen_behind [] = no_module
seen_behind (m ∷ earlier) = seen_after (seen_behind earlier) m

-- a name is among the clocks of a module behind others exactly where it is its clock
abbrev pub IsClocked : List ModuleTree → ModuleTree → Type 0
IsClocked earlier m = (name : List ℕ) → IsIn name (clocks_in (clock_ports earlier) m) ↔ (clock_in (seen_behind earlier) m ≡ Some name)

abbrev pub AreClocked : List ModuleTree → Type 0
AreClocked [] = Unit {0}
AreClocked (m ∷ earlier) = IsClocked earlier m × AreClocked earlier
