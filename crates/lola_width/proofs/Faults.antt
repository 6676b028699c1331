-- The first of several faults.
use Rattle.std.proofs.Common.{◌≡◌, List, [], ◌∷◌, ◌++◌, Option, Some, None, refl, ◌∙◌}
use Rattle.lola_tree.specs.Tree.{SourceTree}
use Rattle.lola_width.specs.declared.fault.SourceFault.{SourceFault}
use Rattle.lola_width.specs.Order.{sooner, first_after}
use Rattle.lola_width.specs.Sized.{source_faults, IsWellSized, first_fault}

pub first_append : (found : Option SourceFault) (xs ys : List SourceFault) → first_after found (xs ++ ys) ≡ first_after (first_after found xs) ys
first_append found [] ys = refl
first_append found (x ∷ xs) ys = first_append (Some (sooner found x)) xs ys

-- one list of faults more, and what is behind it
pub step : (found now : Option SourceFault) (xs rest : List SourceFault) → now ≡ first_after found xs → first_after now rest ≡ first_after found (xs ++ rest)
step found now xs rest is = rw (is, first_append) refl

pub step_two : (found mid now : Option SourceFault) (xs ys rest : List SourceFault) → mid ≡ first_after found xs → now ≡ first_after mid ys →
    first_after now rest ≡ first_after found (xs ++ (ys ++ rest))
step_two found mid now xs ys rest is then = step mid now ys rest then ∙ step found mid xs (ys ++ rest) is

-- a fault that was found stays one, so where none is answered there is none
pub none_found : (faults : List SourceFault) → first_after None faults ≡ None → faults ≡ []
none_found [] none = refl
none_found (f ∷ faults) none = absurd (stays (sooner None f) faults none) where
  stays : (f : SourceFault) (faults : List SourceFault) → first_after (Some f) faults ≡ None → ⊥
  stays f [] none = (cc)
  stays f (g ∷ faults) none = stays (sooner (Some f) g) faults none

pub well_sized : (S : SourceTree) → first_fault S ≡ None → IsWellSized S
well_sized S none = record { none = none_found (source_faults S) none }
