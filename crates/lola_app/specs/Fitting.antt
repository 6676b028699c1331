-- The states of a claim by what their SET rows mean.
use Rattle.std.specs.Prelude.{◌≡◌, ℕ, Bool, false, List, slice_index_or, string_bytes}
use Rattle.lola_tree.specs.declared.named.Ref.{Ref}
use Rattle.lola_elab.specs.declared.logic.Logic.{Logic}
use Rattle.lola_elab.specs.declared.scope.Scope.{Scope}
use Rattle.lola_elab.specs.Logic.{logic_value, bit_number}
use Rattle.lola_elab.specs.Scope.{Reads}
use Rattle.small_tree.specs.Table.{SetTree}
use Rattle.small_tree.specs.Step.{set_value}
use Rattle.lola_app.specs.declared.claim.State.{State}
use Rattle.lola_app.specs.declared.states.Shown.{Shown}

-- an expression over leaves is the value of a state after SET rows over the names of a scope
abbrev pub IsSetBy : List SetTree → Scope → Shown → Logic → Type 0
IsSetBy rows scope shown logic = (names : Ref → ℕ) (leaves : List Bool) (old : ℕ) → Reads scope names leaves → old ≡ bit_number (slice_index_or leaves shown.leaf false) →
    set_value rows (string_bytes shown.name) old names ≡ bit_number (logic_value logic leaves)

-- a state with its name, its leaf and that value
pub record IsSetState (rows : List SetTree) (scope : Scope) (shown : Shown) (state : State) : Type 0 where
  pub named : string_bytes state.name ≡ string_bytes shown.name
  pub leaf : state.leaf ≡ shown.leaf
  pub set : IsSetBy rows scope shown state.set
