-- Values that may be absent.
use Rattle.std.proofs.Common.{◌≡◌, ◌⊎◌, Option, Some, None, inl, inr, refl, ap}
use Rattle.std.specs.Prelude.{Result, Err}

pub some_same : {X : Type 0} (x y : X) → Some x ≡ Some y → x ≡ y
some_same x y e = cc

-- nothing is something nowhere
pub nothing : {X T : Type 0} (y : X) → None ≡ Some y → T
nothing y e = absurd (cc)

pub none_or_some : {X : Type 0} (o : Option X) → (o ≡ None) ⊎ ((x : X) × (o ≡ Some x))
none_or_some None = inl refl
none_or_some (Some x) = inr (x, refl)

-- a fault that is handed on is the same fault
pub same_fault : {A B E : Type 0} (f g : E) → ◌≡◌ {A = Result A E} (Err f) (Err g) → ◌≡◌ {A = Result B E} (Err f) (Err g)
same_fault {B = B} {E = E} f g e = let same : f ≡ g = cc in ap (λ (x : E). let r : Result B E = Err x in r) same
