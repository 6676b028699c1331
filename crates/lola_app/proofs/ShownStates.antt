-- States by the leaves of their registers.
use Rattle.std.proofs.Common.{◌≡◌, ℕ, ◌+◌, ◌<◌, List, [], ◌∷◌, ◌++◌, length, map, take, get_or, sym, subst, arith}
use Rattle.std.specs.List.{AllByRecursion}
use Rattle.std.proofs.lemmas.Option.{slice_get_within}
use Rattle.std.proofs.lemmas.List.{length-map}
use Rattle.lola_bits.specs.Lists.{IsIn, AreEach, IsAt}
use Rattle.lola_bits.proofs.Places.{map_item, take_item}
use Rattle.lola_tree.specs.Tree.{Tree, number, whole, bit, slice, index, concat, negation, binary, choice}
use Rattle.small_tree.specs.Table.{StateTree}
use Rattle.lola_app.specs.declared.states.Shown.{Shown}
use Rattle.lola_app.specs.Shown.{IsSourceName, IsShown}
use Rattle.lola_app.specs.Small.{Interface, ShowsRegister, IsSmallState}

pub shows_register : (e : Tree) (name : List ℕ) (registers : List (List ℕ)) → IsSourceName e name → IsIn name registers → ShowsRegister registers e
shows_register (whole of) name registers is among = (is.0, (name, is.1, among))
shows_register (number n width at) name registers is among = absurd is
shows_register (negation e at) name registers is among = absurd is
shows_register (binary o a b at) name registers is among = absurd is
shows_register (choice test first second at) name registers is among = absurd is
shows_register (bit of place at) name registers is among = absurd is
shows_register (slice of high low at) name registers is among = absurd is
shows_register (index of place at) name registers is among = absurd is
shows_register (concat parts at) name registers is among = absurd is

-- a place is within the list
pub place_within : {X : Type 0} (f : X → List ℕ) (xs : List X) (place : ℕ) (name : List ℕ) → IsAt (map f xs) place name → place < length xs
place_within f xs place name at = let h = slice_get_within (map f xs) place name at in let e = length-map xs f in omega arith

-- one more of two lists side by side
pub each_more : {X Y : Type 0} (P : X → Y → Type 0) (xs : List X) (ys : List Y) (x : X) (y : Y) → AreEach P xs ys → P x y → AreEach P (xs ++ x ∷ []) (ys ++ y ∷ [])
each_more P [] [] x y each one = (one, tt)
each_more P [] (z ∷ ys) x y each one = absurd each
each_more P (z ∷ xs) [] x y each one = absurd each
each_more P (z ∷ xs) (w ∷ ys) x y each one = (each.0, each_more P xs ys x y each.1 one)

pub shown_small : (face : Interface) (rows : List StateTree) (all : List Shown) → AreEach (IsShown face) rows all → AllByRecursion (IsSmallState face.registers) rows
shown_small face [] [] each = tt
shown_small face [] (s ∷ all) each = absurd each
shown_small face (row ∷ rows) [] each = absurd each
shown_small face (row ∷ rows) (s ∷ all) each = (each.0.small, shown_small face rows all each.1)

-- one more row, and what was made of it
pub each_row : {X Y Z : Type 0} (P : Y → Z → Type 0) (f : X → Y) (xs : List X) (i : ℕ) (x : X) (made longer : List Z) (z : Z) → i < length xs → x ≡ get_or xs i x →
    longer ≡ made ++ z ∷ [] → AreEach P (map f (take i xs)) made → P (f x) z → AreEach P (map f (take (i + 1) xs)) longer
each_row P f xs i x made longer z within is more each one =
    subst (λ ys. AreEach P ys longer) (sym (map_item f xs i x within is))
    (subst (λ zs. AreEach P (map f (take i xs) ++ f x ∷ []) zs) (sym more) (each_more P (map f (take i xs)) made (f x) z each one))

pub each_item : {X Z : Type 0} (P : X → Z → Type 0) (xs : List X) (i : ℕ) (x : X) (made longer : List Z) (z : Z) → i < length xs → x ≡ get_or xs i x →
    longer ≡ made ++ z ∷ [] → AreEach P (take i xs) made → P x z → AreEach P (take (i + 1) xs) longer
each_item P xs i x made longer z within is more each one =
    subst (λ ys. AreEach P ys longer) (sym (take_item xs i x within is))
    (subst (λ zs. AreEach P (take i xs ++ x ∷ []) zs) (sym more) (each_more P (take i xs) made x z each one))
