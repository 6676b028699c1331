-- The parts of a net, item by item.
use Rattle.std.proofs.Common.{◌≡◌, ℕ, ◌+◌, List, [], ◌∷◌, ◌++◌, drop, map, slice_get, Some, sym, ap, ◌∙◌, append_assoc}
use Rattle.std.specs.List.{flat_map}
use Rattle.veri_read.proofs.Makes.{left_here}

-- what was put together with what is left, one item on
pub more_here : {X Y : Type 0} (f : X → List Y) (xs : List X) (n : ℕ) (x : X) (before now all : List Y) → slice_get xs n ≡ Some x → now ≡ before ++ f x → before ++ flat_map f (drop n xs) ≡ all →
    now ++ flat_map f (drop (n + 1) xs) ≡ all
more_here {Y = Y} f xs n x before now all at is so =
    let rest = flat_map f (drop (n + 1) xs) in
    ap (λ (l : List Y). l ++ rest) is ∙ append_assoc before (f x) rest ∙ sym (ap (λ (l : List Y). before ++ l) (ap (flat_map f) (left_here xs n x at))) ∙ so

pub map_here : {X Y : Type 0} (f : X → Y) (xs : List X) (n : ℕ) (x : X) (before now all : List Y) → slice_get xs n ≡ Some x → now ≡ before ++ f x ∷ [] → before ++ map f (drop n xs) ≡ all →
    now ++ map f (drop (n + 1) xs) ≡ all
map_here {Y = Y} f xs n x before now all at is so =
    let rest = map f (drop (n + 1) xs) in
    ap (λ (l : List Y). l ++ rest) is ∙ append_assoc before (f x ∷ []) rest ∙ sym (ap (λ (l : List Y). before ++ l) (ap (map f) (left_here xs n x at))) ∙ so
