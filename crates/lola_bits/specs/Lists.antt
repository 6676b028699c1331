-- Items of lists.
use Rattle.std.specs.Prelude.{◌≡◌, ◌⊎◌, ℕ, List, [], ◌∷◌, Some, slice_get}

-- an item is among those of a list
abbrev pub IsIn : {X : Type 0} → X → List X → Type 0
IsIn x [] = ⊥
IsIn x (y ∷ ys) = (x ≡ y) ⊎ IsIn x ys

-- no item comes twice
abbrev pub AreDistinct : {X : Type 0} → List X → Type 0
AreDistinct [] = Unit {0}
AreDistinct (x ∷ xs) = (IsIn x xs → ⊥) × AreDistinct xs

-- two lists have their items side by side
abbrev pub AreEach : {X Y : Type 0} → (X → Y → Type 0) → List X → List Y → Type 0
AreEach P [] [] = Unit {0}
AreEach P [] (y ∷ ys) = ⊥
AreEach P (x ∷ xs) [] = ⊥
AreEach P (x ∷ xs) (y ∷ ys) = P x y × AreEach P xs ys

-- an item stands at a place of a list
abbrev pub IsAt : {X : Type 0} → List X → ℕ → X → Type 0
IsAt items place item = slice_get items place ≡ Some item
