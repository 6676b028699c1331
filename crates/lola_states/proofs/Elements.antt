-- Elements by their numbers, and what a state and an input give to them.
use Rattle.std.proofs.Common.{◌≡◌, ℕ, List, [], ◌∷◌, map, refl, ap, ap₂}
use Rattle.lola_tree.specs.Value.{Values}
use Rattle.lola_tree.specs.design.Signals.{Kind, Signal}
use Rattle.lola_states.specs.States.{element_of, value_by, value_in}

-- what is said of items that are made of the same
pub map_both : {A X Y Z : Type 0} (f : X → Z) (g : Y → Z) (a : A → X) (b : A → Y) → ((m : A) → f (a m) ≡ g (b m)) → (ms : List A) → map f (map a ms) ≡ map g (map b ms)
map_both f g a b same [] = refl
map_both f g a b same (m ∷ ms) = ap₂ (λ z zs. z ∷ zs) (same m) (map_both f g a b same ms)

-- the values of elements of a signal
pub values_are : (s inp : Values) (x : Signal) (k : Kind) → x.kind ≡ k → (ns : List ℕ) → map (value_in s inp) (map (element_of x) ns) ≡ map (λ n. value_by k (s x.path n) (inp x.path n)) ns
values_are s inp x k kind [] = refl
values_are s inp x k kind (n ∷ ns) = ap₂ (λ m ms. m ∷ ms) (ap (λ j. value_by j (s x.path n) (inp x.path n)) kind) (values_are s inp x k kind ns)
