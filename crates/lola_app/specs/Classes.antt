-- The phase of a class, and what it takes.
use Rattle.std.specs.Prelude.{◌≡◌, ℕ, true, if◌then◌else◌, List, [], ◌∷◌, Option, Some, None}
use Rattle.small_tree.specs.Table.{PhaseTree}
use Rattle.lola_app.specs.Small.{IsOne}

-- phases are one phase without a LINK, which loads only where there is a leaf to load from
pub record IsPlainPhase (phases : List PhaseTree) (loaded : Option ℕ) : Type 0 where
  pub phase : PhaseTree
  pub one_phase : phases ≡ phase ∷ []
  pub linked : IsOne phase.link
  pub loads : phase.loads ≡ true → (leaf : ℕ) × (loaded ≡ Some leaf)

-- the leaf that it takes, where it takes one
pub record IsTaken (phases : List PhaseTree) (loaded taken : Option ℕ) : Type 0 where
  pub plain : IsPlainPhase phases loaded
  pub taken_is : taken ≡ (if plain.phase.loads then loaded else None)
