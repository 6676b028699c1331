-- Moved vectors.
use Rattle.std.proofs.Common.{◌≡◌, ℕ, suc, ◌-◌, ◌<◌, min, true, List, [], ◌∷◌, ◌++◌, length, take, drop, get_or, replicate, sym, ap, ap₂, ◌∙◌, inl, inr, arith, length-append, length-drop}
use Rattle.std.proofs.lemmas.Bool.{cases_lt}
use Rattle.std.proofs.lemmas.List.{drop_all, length-replicate}
use Rattle.lola_alg.specs.declared.shifts.Move.{Move}
use Rattle.lola_alg.specs.declared.shifts.Move.TheVariants.{Up, Down, Filled}
use Rattle.lola_alg.specs.Algebra.{Meaning}
use Rattle.lola_alg.specs.Means.{AreKnown}
use Rattle.lola_alg.specs.Steps.{moved_down, highest, moved_filled}
use Rattle.lola_alg.specs.Gates.{move_of, IsKnownMove}
use Rattle.lola_alg.proofs.Moved.{up_long, down_long, each_up, each_down, each_filled}

-- the highest bit of a vector, again and again
pub highest_long : {B : Type 0} (x : B) (xs : List B) (n : ℕ) → length (highest (x ∷ xs) n) ≡ n
highest_long x [] n = length-replicate n x
highest_long x (y ∷ more) n = highest_long y more n

-- it is the last of the list
pub highest_is : {B : Type 0} (xs : List B) (top : B) (n : ℕ) → 0 < length xs → top ≡ get_or xs (length xs - 1) top → highest xs n ≡ replicate n top
highest_is [] top n some is = absurd (omega arith)
highest_is (x ∷ []) top n some is = ap (λ y. replicate n y) (sym is)
highest_is (x ∷ y ∷ more) top n some is =
    let place : length (x ∷ y ∷ more) - 1 ≡ suc (length (y ∷ more) - 1) = omega arith in
    highest_is (y ∷ more) top n (omega arith) (is ∙ ap (λ i. get_or (x ∷ y ∷ more) i top) place)

pub filled_is : {B : Type 0} (n : ℕ) (xs : List B) (top : B) → 0 < length xs → top ≡ get_or xs (length xs - 1) top → moved_down top n xs ≡ moved_filled n xs
filled_is n xs top some is = ap (λ ys. drop n xs ++ ys) (sym (highest_is xs top (min n (length xs)) some is))

least_twice : (n m : ℕ) → min (min n m) m ≡ min n m
least_twice n m = omega arith

drop_least : {B : Type 0} (n : ℕ) (xs : List B) → drop (min n (length xs)) xs ≡ drop n xs
drop_least n xs = elim (cases_lt n (length xs)) [
  | inl less ↦ (let same : min n (length xs) ≡ n = omega arith in ap (λ m. drop m xs) same)
  | inr more ↦ drop_all (min n (length xs)) xs (omega arith) ∙ sym (drop_all n xs more)
]

-- a move by more than the length is one by the length
pub move_least : {B : Type 0} (way : Move B) (n : ℕ) (xs : List B) → move_of way (min n (length xs)) xs ≡ move_of way n xs
move_least (Up fill) n xs = ap (λ m. take (length xs) (replicate m fill ++ xs)) (least_twice n (length xs))
move_least (Down fill) n xs = ap₂ (λ ys m. ys ++ replicate m fill) (drop_least n xs) (least_twice n (length xs))
move_least Filled n xs = ap₂ (λ ys m. ys ++ highest xs m) (drop_least n xs) (least_twice n (length xs))

pub move_long : {B : Type 0} (way : Move B) (n : ℕ) (xs : List B) → length (move_of way n xs) ≡ length xs
move_long (Up fill) n xs = up_long fill n xs
move_long (Down fill) n xs = down_long fill n xs
move_long Filled n [] = let back : drop n [] ≡ [] = drop_all n [] (omega arith) in ap (λ ys. length (ys ++ [])) back
move_long Filled n (x ∷ xs) =
    let long = length-append (drop n (x ∷ xs)) (highest (x ∷ xs) (min n (length (x ∷ xs)))) in
    let back = length-drop n (x ∷ xs) in
    let front = highest_long x xs (min n (length (x ∷ xs))) in
    omega arith

-- what moves, and what comes in, is known
pub move_known : {D B : Type 0} (m : Meaning D B) (d : D) (way : Move B) (n : ℕ) (xs : List B) → IsKnownMove m d way → AreKnown m d xs → AreKnown m d (move_of way n xs)
move_known m d (Up fill) n xs k p = each_up (λ b. m.knows d b ≡ true) fill n xs k p
move_known m d (Down fill) n xs k p = each_down (λ b. m.knows d b ≡ true) fill n xs k p
move_known m d Filled n xs k p = each_filled (λ b. m.knows d b ≡ true) n xs p
