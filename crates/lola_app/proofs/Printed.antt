-- Names of free bits as they are printed.
use Rattle.std.proofs.Common.{◌≡◌, ℕ, zero, suc, ◌+◌, List, [], ◌∷◌, ◌++◌, length, map, take, drop, refl, sym, ap, ◌∙◌, arith, append_assoc}
use Rattle.std.specs.Prelude.{min}
use Rattle.std.proofs.lemmas.List.{map-append}

-- a list up to a number, or up to its end where that is less
pub take_min : {X : Type 0} (n : ℕ) (xs : List X) → take (min n (length xs)) xs ≡ take n xs
take_min zero xs = let e : min 0 (length xs) ≡ 0 = omega arith in ap (λ (m : ℕ). take m xs) e
take_min (suc n) [] = let e : min (suc n) 0 ≡ 0 = omega arith in ap (λ (m : ℕ). take m []) e
take_min (suc n) (x ∷ xs) =
    let e : min (suc n) (suc (length xs)) ≡ suc (min n (length xs)) = omega arith in
    ap (λ (m : ℕ). take m (x ∷ xs)) e ∙ ap (λ ys. x ∷ ys) (take_min n xs)

drop_suc : {X : Type 0} (n : ℕ) (xs : List X) → drop 1 (drop n xs) ≡ drop (suc n) xs
drop_suc zero xs = refl
drop_suc (suc n) [] = refl
drop_suc (suc n) (x ∷ xs) = drop_suc n xs

drop_end : {X : Type 0} (n : ℕ) (xs : List X) → drop (suc (min n (length xs))) xs ≡ drop (n + 1) xs
drop_end zero xs =
    let e : suc (min 0 (length xs)) ≡ 1 = omega arith in
    let f : 0 + 1 ≡ 1 = omega arith in
    ap (λ (m : ℕ). drop m xs) e ∙ ap (λ (m : ℕ). drop m xs) (sym f)
drop_end {X = X} (suc n) [] = let f : suc n + 1 ≡ suc (n + 1) = omega arith in ap (λ (m : ℕ). drop {A = X} m []) (sym f)
drop_end (suc n) (x ∷ xs) =
    let e : min (suc n) (suc (length xs)) ≡ suc (min n (length xs)) = omega arith in
    let f : suc n + 1 ≡ suc (n + 1) = omega arith in
    ap (λ (m : ℕ). drop (suc m) (x ∷ xs)) e ∙ drop_end n xs ∙ ap (λ (m : ℕ). drop m (x ∷ xs)) (sym f)

pub drop_min : {X : Type 0} (n : ℕ) (xs : List X) → drop 1 (drop (min n (length xs)) xs) ≡ drop (n + 1) xs
drop_min n xs = drop_suc (min n (length xs)) xs ∙ drop_end n xs

pub map_take : {X Y : Type 0} (f : X → Y) (n : ℕ) (xs : List X) → map f (take n xs) ≡ take n (map f xs)
map_take f zero xs = refl
map_take f (suc n) [] = refl
map_take f (suc n) (x ∷ xs) = ap (λ ys. f x ∷ ys) (map_take f n xs)

pub map_drop : {X Y : Type 0} (f : X → Y) (n : ℕ) (xs : List X) → map f (drop n xs) ≡ drop n (map f xs)
map_drop f zero xs = refl
map_drop f (suc n) [] = refl
map_drop f (suc n) (x ∷ xs) = map_drop f n xs

-- three lists of names, one behind the other
pub three_lists : (at : List ℕ → List ℕ) (a b c : List (List ℕ)) (one two three : List (List ℕ)) → one ≡ map at a → two ≡ one ++ map at b → three ≡ two ++ map at c → three ≡ map at (a ++ (b ++ c))
three_lists at a b c one two three e f g =
    g ∙ ap (λ l. l ++ map at c) (f ∙ ap (λ l. l ++ map at b) e) ∙ append_assoc (map at a) (map at b) (map at c)
    ∙ ap (λ l. map at a ++ l) (sym (map-append at b c)) ∙ sym (map-append at a (b ++ c))

-- three lists of numbers, one behind the other
pub three_parts : (a b c one two three : List ℕ) → one ≡ a → two ≡ one ++ b → three ≡ two ++ c → three ≡ a ++ (b ++ c)
three_parts a b c one two three e f g = g ∙ ap (λ l. l ++ c) (f ∙ ap (λ l. l ++ b) e) ∙ append_assoc a b c
