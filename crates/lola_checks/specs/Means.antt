-- What the bits of the elements of an array mean.
use Rattle.std.specs.Prelude.{◌≡◌, ℕ, List, length}
use Rattle.lola_alg.specs.Algebra.{Meaning}
use Rattle.lola_alg.specs.Means.{MeansNumbers}
use Rattle.lola_flat.specs.Value.{Env, mapped}
use Rattle.lola_eval.specs.Means.{numbers}
use Rattle.lola_checks.specs.Tree.{ElementsTree}
use Rattle.lola_checks.specs.Holds.{elements_value}

-- so many vectors of a width mean, under each assignment, the elements, and all before stays
pub record MeansElements {D B : Type 0} (m : Meaning D B) (E : Env (List B)) (e : ElementsTree) (wide count : ℕ) (before now : D) (made : List (List B)) : Type 0 where
  pub numbers : MeansNumbers m before now made wide (λ v. elements_value (mapped length E) (numbers m before v E) e)
  pub long : length made ≡ count
