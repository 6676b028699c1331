-- The entries of the scopes of a table.
use Rattle.std.specs.Prelude.{◌≡◌, ℕ, false, List, [], ◌∷◌, ◌++◌, codes, Option, Some, None, string_bytes}
use Rattle.lola_elab.specs.declared.scope.Reading.{Reading}
use Rattle.lola_elab.specs.declared.scope.Reading.TheVariants as reading
use Rattle.lola_elab.specs.declared.scope.Scope.{Scope}
use Rattle.lola_elab.specs.Leaves.{leaves_from, shown}
use Rattle.lola_app.specs.declared.states.Shown.{Shown}

-- a name and what it stands for
abbrev pub Entered : Type 0
Entered = List ℕ × Reading

-- the registers behind an `@`, numbered from some leaf on
pub record HasRegisters (from : ℕ) (registers : List (List ℕ)) (scope : Scope) : Type 0 where
  pub bare : scope.bare.items ≡ []
  pub source : shown scope.source.items ≡ leaves_from from registers

-- `d0`, where phase 0 takes the loaded word
abbrev pub loaded_entry : Option ℕ → List Entered
loaded_entry None = []
loaded_entry (Some leaf) = (codes "d0", reading.Leaf leaf) ∷ []

abbrev pub state_entries : List Shown → List Entered
state_entries [] = []
state_entries (s ∷ states) = (string_bytes s.name, reading.Leaf s.leaf) ∷ state_entries states

-- what a class may hold: the word `i`, which is 0, the loaded word, and the states
pub record HasClassNames (taken : Option ℕ) (states : List Shown) (scope : Scope) : Type 0 where
  pub bare : shown scope.bare.items ≡ (codes "i", reading.Constant false) ∷ (loaded_entry taken ++ state_entries states)
  pub source : scope.source.items ≡ []
