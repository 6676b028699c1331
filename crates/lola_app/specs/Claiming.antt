-- What a claim over leaves has of the table that it was made of. The leaves are the bits that a table sees
-- of a design: its one-bit inputs but the clock, and then its one-bit registers.
use Rattle.std.specs.Prelude.{◌≡◌, ℕ, ◌≤◌, List, [], ◌∷◌, ◌++◌, length, map, Bool, false, Some, slice_get, slice_index_or, string_bytes}
use Rattle.lola_bits.specs.Lists.{AreEach}
use Rattle.lola_tree.specs.Value.{Values}
use Rattle.lola_tree.specs.Signals.{values_of}
use Rattle.lola_elab.specs.Logic.{logic_value, bit_number, AreBits}
use Rattle.small_tree.specs.Table.{StateTree, SetTree, ClassTree, TableTree}
use Rattle.small_tree.specs.Step.{source_names, no_names, class_names, state_value, set_value, loaded_word, table_value}
use Rattle.lola_app.specs.declared.claim.Claim.{Claim}
use Rattle.lola_app.specs.declared.claim.State.{State}
use Rattle.lola_app.specs.declared.claim.Start.{Start}
use Rattle.lola_app.specs.Headline.{shown, answer_of}
use Rattle.lola_app.specs.Small.{Interface, IsSmallTable}
use Rattle.lola_app.specs.Vectors.{interface_in}

-- the leaves have the values that a state and an input give them
abbrev pub AreLeaves : Interface → Values → Values → List Bool → Type 0
AreLeaves face s inp leaves = AreBits (values_of inp face.inputs ++ values_of s face.registers) leaves

-- an expression over registers means the same over the leaves
abbrev pub MeansBit : Interface → (Values → Values → ℕ) → (List Bool → Bool) → Type 0
MeansBit face number bit = (s inp : Values) (leaves : List Bool) → AreLeaves face s inp leaves → number s inp ≡ bit_number (bit leaves)

-- a state of a claim: its name, the leaf of the register that shows it, and its value after an
-- instruction of the class
pub record IsClaimedState (face : Interface) (T : TableTree) (c : ClassTree) (row : StateTree) (state : State) : Type 0 where
  pub named : string_bytes state.name ≡ row.name
  pub behind : length face.inputs ≤ state.leaf
  pub shown_is : MeansBit face (λ s inp. table_value row.shown (source_names s)) (λ leaves. slice_index_or leaves state.leaf false)
  pub set_is : MeansBit face
      (λ s inp. set_value c.sets row.name (table_value row.shown (source_names s)) (class_names T (shown T s) 0 (loaded_word c (answer_of T inp))))
      (logic_value state.set)

-- a START row of a claim: its name, the leaf of the state that it sets, and its value
pub record IsClaimedStart (face : Interface) (T : TableTree) (row : SetTree) (start : Start) : Type 0 where
  pub named : string_bytes start.name ≡ row.name
  pub behind : length face.inputs ≤ start.leaf
  pub state_is : MeansBit face (λ s inp. state_value T.states (shown T s) row.name) (λ leaves. slice_index_or leaves start.leaf false)
  pub value_is : (leaves : List Bool) → table_value row.value no_names ≡ bit_number (logic_value start.value leaves)

-- a claim says of what it sees what the table says
pub record IsClaimOf (T : TableTree) (claim : Claim) : Type 0 where
  pub small : IsSmallTable (interface_in claim.face) T
  pub reset : slice_get (map string_bytes claim.face.inputs.items) claim.reset ≡ Some T.reset.port
  pub active : claim.active ≡ T.reset.value
  pub invariant : MeansBit (interface_in claim.face) (λ s inp. table_value T.invariant (source_names s)) (logic_value claim.invariant)
  pub boundary : MeansBit (interface_in claim.face) (λ s inp. table_value T.boundary (source_names s)) (logic_value claim.boundary)
  pub class : string_bytes claim.class ≡ small.class.name
  pub pattern : small.class.pattern ≡ claim.pattern ∷ []
  pub states : AreEach (IsClaimedState (interface_in claim.face) T small.class) T.states claim.states.items
  pub starts : AreEach (IsClaimedStart (interface_in claim.face) T) T.starts claim.starts.items
