-- The rows of START by the leaves of the states that they set.
use Rattle.std.specs.Prelude.{◌≡◌, ℕ, Bool, if◌then◌else◌, List, [], ◌∷◌, Option, Some, None, bytes_eq, string_bytes}
use Rattle.lola_elab.specs.Logic.{logic_value, bit_number}
use Rattle.lola_elab.specs.Small.{IsSmallExpr}
use Rattle.small_tree.specs.Table.{SetTree}
use Rattle.small_tree.specs.Step.{no_names, table_value}
use Rattle.lola_app.specs.declared.states.Shown.{Shown}
use Rattle.lola_app.specs.declared.claim.Start.{Start}
use Rattle.lola_app.specs.Small.{IsNoName}

-- the leaf of the first state under a name
abbrev pub leaf_under : List Shown → List ℕ → Option ℕ
leaf_under [] name = None
leaf_under (s ∷ states) name = if bytes_eq (string_bytes s.name) name then Some s.leaf else leaf_under states name

-- a START row with its name, the leaf of its state, and its value
pub record IsStartRow (states : List Shown) (row : SetTree) (start : Start) : Type 0 where
  pub named : string_bytes start.name ≡ row.name
  pub leaf : leaf_under states row.name ≡ Some start.leaf
  pub small : IsSmallExpr IsNoName row.value
  pub value_is : (leaves : List Bool) → table_value row.value no_names ≡ bit_number (logic_value start.value leaves)
