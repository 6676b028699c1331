-- Targets one list after another.
use Rattle.std.proofs.Common.{◌≡◌, List, [], ◌∷◌, ◌++◌, Option, refl, ap, sym, ◌∙◌, append_assoc}
use Rattle.lola_tree.specs.declared.named.Named.{Named}
use Rattle.lola_width.specs.declared.fault.SourceFault.{SourceFault}
use Rattle.lola_width.specs.AssignmentFaults.{Taken, taken_with, taken_with_all, again, twice}
use Rattle.lola_width.specs.Order.{first_after}
use Rattle.lola_width.proofs.Faults.{first_append}

pub taken_append : (taken : Taken) (xs ys : List Named) → taken_with_all taken (xs ++ ys) ≡ taken_with_all (taken_with_all taken xs) ys
taken_append taken [] ys = refl
taken_append taken (x ∷ xs) ys = taken_append (taken_with taken x.name) xs ys

pub twice_append : (taken : Taken) (xs ys : List Named) → twice taken (xs ++ ys) ≡ twice taken xs ++ twice (taken_with_all taken xs) ys
twice_append taken [] ys = refl
twice_append taken (x ∷ xs) ys =
    ap (λ fs. again taken x.at x.name ++ fs) (twice_append (taken_with taken x.name) xs ys)
    ∙ sym (append_assoc (again taken x.at x.name) (twice (taken_with taken x.name) xs) (twice (taken_with_all (taken_with taken x.name) xs) ys))

-- the two targets of a pad's statement
pub pad_step : (found : Option SourceFault) (taken mid : Taken) (io inner : Named) → mid ≡ taken_with taken io.name →
    first_after (first_after found (again taken io.at io.name)) (again mid inner.at inner.name) ≡ first_after found (twice taken (io ∷ inner ∷ []))
pad_step found taken mid io inner is =
    ap (λ tk. first_after (first_after found (again taken io.at io.name)) (again tk inner.at inner.name)) is
    ∙ sym (first_append found (again taken io.at io.name) (twice (taken_with taken io.name) (inner ∷ [])) ∙ last (again (taken_with taken io.name) inner.at inner.name))
  where
    last : (xs : List SourceFault) → first_after (first_after found (again taken io.at io.name)) (xs ++ []) ≡ first_after (first_after found (again taken io.at io.name)) xs
    last xs = first_append (first_after found (again taken io.at io.name)) xs []
