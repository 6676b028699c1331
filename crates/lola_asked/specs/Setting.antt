-- What a check is asked in: which of the elements that a cycle leaves free are given, and what is free besides.
use Rattle.std.specs.Prelude.{◌≡◌, ℕ, ◌<◌, ◌≤◌, ◌^◌, ◌-◌, min, cond, List, [], ◌∷◌, ◌++◌, map, length, take, drop, replicate, Option, Some, None, Result, Ok, Err}
use Rattle.lola_bits.specs.Lists.{AreEach}
use Rattle.lola_flat.specs.declared.design.SigKind.{SigKind}
use Rattle.lola_flat.specs.declared.design.SigKind.TheVariants.{Input, Pad, Wire, Register}
use Rattle.lola_flat.specs.Tree.{SignalTree, FlatTree}
use Rattle.lola_flat.specs.Value.{Env, env, sum_of}
use Rattle.lola_cases.specs.Free.{free_count, free_widths}
use Rattle.lola_cases.specs.Bits.{outside_width}
use Rattle.lola_asked.specs.declared.setting.Further.{Further}
use Rattle.lola_asked.specs.declared.setting.Setting.{Setting}

-- the widths of the elements of further names, one name behind another
abbrev pub element_widths : List Further → List ℕ
element_widths [] = []
element_widths (f ∷ further) = replicate f.count f.width ++ element_widths further

-- the widths of all elements: those that a cycle of the design leaves free, and behind them those of further names
abbrev pub all_widths : FlatTree → Setting → List ℕ
all_widths F s = free_widths F ++ element_widths s.further

-- a given number is below 2 to the width
abbrev pub GivenFits : Option ℕ → ℕ → Type 0
GivenFits None width = Unit {0}
GivenFits (Some n) width = n < 2 ^ width

-- a setting says of each element whether it is given
abbrev pub IsSetting : FlatTree → Setting → Type 0
IsSetting F s = AreEach GivenFits s.given (all_widths F s)

-- the width of an element that isn't given, and the widths of all that aren't
abbrev pub open_one : Option ℕ → ℕ → List ℕ
open_one None w = w ∷ []
open_one (Some n) w = []

abbrev pub open_widths : List (Option ℕ) → List ℕ → List ℕ
open_widths [] ws = []
open_widths (g ∷ given) [] = []
open_widths (g ∷ given) (w ∷ ws) = open_one g w ++ open_widths given ws

abbrev pub setting_widths : FlatTree → Setting → List ℕ
setting_widths F s = open_widths s.given (all_widths F s)

-- how many bits are free
abbrev pub free_bits : FlatTree → Setting → ℕ
free_bits F s = sum_of (setting_widths F s)

-- the numbers of all elements, where what isn't given has these numbers in turn
abbrev pub filled : List (Option ℕ) → List ℕ → List ℕ
filled [] ns = []
filled (Some n ∷ given) ns = n ∷ filled given ns
filled (None ∷ given) [] = 0 ∷ filled given []
filled (None ∷ given) (n ∷ ns) = n ∷ filled given ns

-- to each further name as many as it has elements
abbrev pub shared : {X : Type 0} → List Further → List X → List (List X)
shared [] xs = []
shared (f ∷ further) xs = take f.count xs ∷ shared further (drop f.count xs)

-- the numbers of the design's elements, and those of further names
abbrev pub design_numbers : FlatTree → Setting → List ℕ → List ℕ
design_numbers F s ns = take (length (free_widths F)) (filled s.given ns)

abbrev pub further_numbers : FlatTree → Setting → List ℕ → List (List ℕ)
further_numbers F s ns = shared s.further (drop (length (free_widths F)) (filled s.given ns))

-- the widths of a signal's elements in a cycle, of which the clock has none; of its elements behind the cycle, which only
-- a register has; and of a further name's elements
abbrev pub row_count : FlatTree → SignalTree → SigKind → ℕ
row_count F s Input = free_count F s
row_count F s Pad = s.count
row_count F s Wire = s.count
row_count F s Register = s.count

abbrev pub row_widths : FlatTree → SignalTree → List ℕ
row_widths F s = replicate (row_count F s s.kind) s.width

abbrev pub behind_count : SignalTree → SigKind → ℕ
behind_count s Input = 0
behind_count s Pad = 0
behind_count s Wire = 0
behind_count s Register = s.count

abbrev pub behind_widths : SignalTree → List ℕ
behind_widths s = replicate (behind_count s s.kind) s.width

abbrev pub further_widths : List Further → List (List ℕ)
further_widths further = map (λ (f : Further). replicate f.count f.width) further

-- the tables of a check: with n signals, signal j is number j, its elements behind the cycle are number n + j, and further
-- name j is number 2n + j. From outside stand the values of pads
abbrev pub joined_tables : {X : Type 0} → List (List X) → List (List X) → List (List X) → List (List X)
joined_tables signals behind further = signals ++ (behind ++ further)

abbrev pub widths_with : FlatTree → List (List ℕ) → Env ℕ
widths_with F further =
    env (joined_tables (map (row_widths F) F.signals) (map behind_widths F.signals) further) (map (λ (t : SignalTree). outside_width t.kind t.width) F.signals)

abbrev pub check_widths : FlatTree → Setting → Env ℕ
check_widths F s = widths_with F (further_widths s.further)
