-- Values that satisfy equations, whatever values are: what isn't wanted has a value that is there before.
use Rattle.std.specs.Prelude.{◌≡◌, ℕ, List}
use Rattle.lola_order.specs.Graph.{Graph, Uses, IsWanted}
use Rattle.lola_bits.specs.Lists.{IsIn}

-- what an equation gives for some values hangs on those alone that it uses
abbrev pub HangsOnUses : {X : Type 0} → Graph → (ℕ → (ℕ → X) → X) → Type 0
HangsOnUses {X = X} g f = (i : ℕ) (us : List ℕ) (v w : ℕ → X) → Uses g i us → ((j : ℕ) → IsIn j us → v j ≡ w j) → f i v ≡ f i w

pub record IsSolution {X : Type 0} (g : Graph) (f : ℕ → (ℕ → X) → X) (base v : ℕ → X) : Type 0 where
  pub equations : (i : ℕ) → IsWanted g i → v i ≡ f i v
  pub given : (i : ℕ) → (IsWanted g i → ⊥) → v i ≡ base i
