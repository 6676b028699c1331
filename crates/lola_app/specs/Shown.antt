-- The states of a table by the leaves of their registers.
use Rattle.std.specs.Prelude.{◌≡◌, ℕ, ◌+◌, true, List, [], ◌∷◌, length, Option, Some, None, string_bytes}
use Rattle.lola_bits.specs.Lists.{IsAt}
use Rattle.lola_tree.specs.Tree.{Tree, number, whole, bit, slice, index, concat, negation, binary, choice}
use Rattle.small_tree.specs.Table.{StateTree, TableTree}
use Rattle.lola_app.specs.declared.states.Shown.{Shown}
use Rattle.lola_app.specs.declared.roles.Roles.{Roles}
use Rattle.lola_app.specs.Small.{Interface, IsSmallState, AreSmallRoles}

-- an expression is `@` and this one name
abbrev pub IsSourceName : Tree → List ℕ → Type 0
IsSourceName (whole of) name = (of.source ≡ true) × (of.path ≡ name ∷ [])
IsSourceName (number n width at) name = ⊥
IsSourceName (negation e at) name = ⊥
IsSourceName (binary o a b at) name = ⊥
IsSourceName (choice test first second at) name = ⊥
IsSourceName (bit of place at) name = ⊥
IsSourceName (slice of high low at) name = ⊥
IsSourceName (index of place at) name = ⊥
IsSourceName (concat parts at) name = ⊥

-- a state with its name and the leaf of the register that it shows
pub record IsShown (face : Interface) (row : StateTree) (shown : Shown) : Type 0 where
  pub small : IsSmallState face.registers row
  pub named : string_bytes shown.name ≡ row.name
  pub register : List ℕ
  pub place : ℕ
  pub shows : IsSourceName row.shown register
  pub at : IsAt face.registers place register
  pub leaf : shown.leaf ≡ length face.inputs + place

-- the leaf of LOADED's port, where there is that role
abbrev pub IsLoadedAt : List (List ℕ) → Option (List ℕ) → Option ℕ → Type 0
IsLoadedAt inputs None None = Unit {0}
IsLoadedAt inputs None (Some leaf) = ⊥
IsLoadedAt inputs (Some port) None = ⊥
IsLoadedAt inputs (Some port) (Some leaf) = IsAt inputs leaf port

-- the leaves of the roles' ports
pub record AreRoles (inputs : List (List ℕ)) (T : TableTree) (roles : Roles) : Type 0 where
  pub small : AreSmallRoles inputs T
  pub reset : IsAt inputs roles.reset T.reset.port
  pub loaded : IsLoadedAt inputs T.loaded roles.loaded
