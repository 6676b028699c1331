-- What a loop over two vectors keeps.
use Rattle.std.specs.Prelude.{◌≡◌, List, ◌++◌, Option, Some}
use Rattle.lola_alg.specs.Algebra.{Meaning, Stays}
use Rattle.lola_alg.specs.Steps.{into}
use Rattle.lola_alg.specs.Means.{AreKnown}

-- the steps from the start on are those that are left, behind the bits that are made
abbrev pub GoesOn : {D X : Type 0} → Option (D × List X) → List X → Option (D × List X) → Type 0
GoesOn whole made rest = whole ≡ into rest (λ more d. Some (d, made ++ more))

-- what was known stays, and what was made is known
pub record Keeping {D B : Type 0} (m : Meaning D B) (before now : D) (made : List B) : Type 0 where
  pub stays : Stays m before now
  pub known : AreKnown m now made
