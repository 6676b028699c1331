-- Which of a source's faults is answered: the first by stage, then by place, then by the row of its kind.
use Rattle.std.specs.Prelude.{ℕ, Bool, cond, nat_eq, nat_lt, List, [], ◌∷◌, Option, Some, None}
use Rattle.lola_width.specs.declared.fault.SourceFault.{SourceFault}
use Rattle.lola_width.specs.declared.fault.SourceFault.TheVariants.{Doubled, Unknown, Kind, ArrayShape, Clock, TooWide, Width, IndexRange, PortCount, NotAssigned, AssignedTwice, Memory}

-- names, widths, assignments
abbrev pub stage_of : SourceFault → ℕ
stage_of (Doubled at name) = 0
stage_of (Unknown at name) = 0
stage_of (Kind at) = 0
stage_of (ArrayShape at name) = 0
stage_of (Clock at) = 0
stage_of (Width at left right) = 1
stage_of (TooWide at) = 1
stage_of (IndexRange at) = 1
stage_of (PortCount at) = 1
stage_of (NotAssigned at name) = 2
stage_of (AssignedTwice at name) = 2
stage_of Memory = 3

abbrev pub place_of : SourceFault → ℕ
place_of (Doubled at name) = at
place_of (Unknown at name) = at
place_of (Kind at) = at
place_of (ArrayShape at name) = at
place_of (Clock at) = at
place_of (Width at left right) = at
place_of (TooWide at) = at
place_of (IndexRange at) = at
place_of (PortCount at) = at
place_of (NotAssigned at name) = at
place_of (AssignedTwice at name) = at
place_of Memory = 0

abbrev pub row_of : SourceFault → ℕ
row_of (Doubled at name) = 0
row_of (Unknown at name) = 1
row_of (Kind at) = 2
row_of (ArrayShape at name) = 3
row_of (Clock at) = 4
row_of (TooWide at) = 5
row_of (Width at left right) = 6
row_of (IndexRange at) = 7
row_of (PortCount at) = 8
row_of (NotAssigned at name) = 9
row_of (AssignedTwice at name) = 10
row_of Memory = 11

-- one fault is answered rather than another
abbrev pub is_sooner : SourceFault → SourceFault → Bool
is_sooner f g =
    cond (nat_eq (stage_of f) (stage_of g))
    (cond (nat_eq (place_of f) (place_of g)) (nat_lt (row_of f) (row_of g)) (nat_lt (place_of f) (place_of g)))
    (nat_lt (stage_of f) (stage_of g))

-- the fault that is answered of one that was found and a further one
abbrev pub sooner : Option SourceFault → SourceFault → SourceFault
sooner None f = f
sooner (Some g) f = cond (is_sooner f g) f g

-- and of one that was found and several more: of two that no order parts it is the one that stands first
abbrev pub first_after : Option SourceFault → List SourceFault → Option SourceFault
first_after found [] = found
first_after found (f ∷ faults) = first_after (Some (sooner found f)) faults
