-- Vectors dealt out to the signals of a design, and to further names.
use Rattle.std.specs.Prelude.{ℕ, List, [], ◌∷◌, map, length, take, drop, get_or}
use Rattle.lola_flat.specs.declared.design.SigKind.{SigKind}
use Rattle.lola_flat.specs.declared.design.SigKind.TheVariants.{Input, Pad, Wire, Register}
use Rattle.lola_flat.specs.Tree.{SignalTree, FlatTree}
use Rattle.lola_cases.specs.Free.{free_count}

-- of its share a signal has its elements, and a pad what it is given from outside
abbrev pub row_in : {X : Type 0} → SigKind → List X → List X
row_in Input share = share
row_in Register share = share
row_in Pad share = []
row_in Wire share = []

abbrev pub outside_part : {X : Type 0} → X → SigKind → List X → X
outside_part none Pad share = get_or share 0 none
outside_part none Input share = none
outside_part none Register share = none
outside_part none Wire share = none

-- to each signal as many as it has free
abbrev pub dealt : {X : Type 0} → FlatTree → List SignalTree → List X → List (List X)
dealt F [] xs = []
dealt F (s ∷ signals) xs = row_in s.kind (take (free_count F s) xs) ∷ dealt F signals (drop (free_count F s) xs)

abbrev pub dealt_outside : {X : Type 0} → X → FlatTree → List SignalTree → List X → List X
dealt_outside none F [] xs = []
dealt_outside none F (s ∷ signals) xs = outside_part none s.kind (take (free_count F s) xs) ∷ dealt_outside none F signals (drop (free_count F s) xs)
