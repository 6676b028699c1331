-- The fault that is answered, in words that don't speak of how it is found.
use Rattle.std.specs.Prelude.{◌≡◌, ◌⊎◌, ◌↔◌, ◌<◌, Some, None}
use Rattle.lola_bits.specs.Lists.{IsIn}
use Rattle.lola_tree.specs.Tree.{SourceTree}
use Rattle.lola_width.specs.declared.fault.SourceFault.{SourceFault}
use Rattle.lola_width.specs.Order.{stage_of, place_of, row_of}
use Rattle.lola_width.specs.Sized.{source_faults, IsWellSized, first_fault}

-- an earlier stage, or the same stage and an earlier place, or the same place too and an earlier kind
abbrev pub IsSooner : SourceFault → SourceFault → Type 0
IsSooner f g =
    (stage_of f < stage_of g)
    ⊎ ((stage_of f ≡ stage_of g) × ((place_of f < place_of g) ⊎ ((place_of f ≡ place_of g) × (row_of f < row_of g))))

-- a fault holds, and none that holds is sooner
pub record IsFirst (S : SourceTree) (f : SourceFault) : Type 0 where
  pub holds : IsIn f (source_faults S)
  pub none_sooner : (g : SourceFault) → IsIn g (source_faults S) → IsSooner g f → ⊥

pub record AnswersFirst (S : SourceTree) : Type 0 where
  pub none : (first_fault S ≡ None) ↔ IsWellSized S
  pub first : (f : SourceFault) → first_fault S ≡ Some f → IsFirst S f
