-- Items at places of lists, and lists around them. A loop over a list takes the item at its index `i`
-- from what is left, `drop i xs`, and puts it behind what it has passed, `take i xs`.
use Rattle.std.proofs.Common.{◌≡◌, ◌≢◌, ◌⊎◌, ◌↔◌, ℕ, zero, suc, ◌+◌, ◌-◌, ◌<◌, ◌≤◌, List, [], ◌∷◌, ◌++◌, length, map, take, drop, get_or, set, replicate, Some, None, refl, sym, ◌∙◌, ap, subst, inl, inr, arith}
use Rattle.std.specs.Prelude.{slice_get, slice_index_or}
use Rattle.std.specs.List.{AllByRecursion}
use Rattle.std.proofs.lemmas.List.{take_more, drop_more, map-append}
use Rattle.lola_bits.specs.Lists.{IsIn}
use Rattle.lola_bits.proofs.Lists.{in_drop, but_last}

-- the item at an index, before what is left and behind what was passed
pub drop_item : {X : Type 0} (xs : List X) (i : ℕ) (x : X) → i < length xs → x ≡ get_or xs i x → drop i xs ≡ x ∷ drop (i + 1) xs
drop_item {X = X} xs i x within is = drop_more xs i x within ∙ ap (λ (y : X). y ∷ drop (i + 1) xs) (sym is)

pub take_item : {X : Type 0} (xs : List X) (i : ℕ) (x : X) → i < length xs → x ≡ get_or xs i x → take (i + 1) xs ≡ take i xs ++ x ∷ []
take_item {X = X} xs i x within is = take_more xs i x within ∙ ap (λ (y : X). take i xs ++ y ∷ []) (sym is)

pub map_item : {X Y : Type 0} (f : X → Y) (xs : List X) (i : ℕ) (x : X) → i < length xs → x ≡ get_or xs i x → map f (take (i + 1) xs) ≡ map f (take i xs) ++ f x ∷ []
map_item f xs i x within is = ap (map f) (take_item xs i x within is) ∙ map-append f (take i xs) (x ∷ [])

-- it is among the items
pub item_in : {X : Type 0} (xs : List X) (i : ℕ) (x : X) → i < length xs → x ≡ get_or xs i x → IsIn x xs
item_in {X = X} xs i x within is = in_drop i x xs (subst (λ (ys : List X). IsIn x ys) (sym (drop_item xs i x within is)) (inl refl))

-- an item of what was passed and one more
pub in_take_item : {X : Type 0} (xs : List X) (i : ℕ) (x y : X) → i < length xs → x ≡ get_or xs i x → IsIn y (take (i + 1) xs) → (y ≡ x) ⊎ IsIn y (take i xs)
in_take_item {X = X} xs i x y within is among = but_last y x (take i xs) (subst (λ (l : List X). IsIn y l) (take_item xs i x within is) among)

-- a fact of all items that are left is one of the item here and of those behind it
pub all_step : {X Q : Type 0} (P : X → Type 0) (xs : List X) (i : ℕ) (x : X) → i < length xs → x ≡ get_or xs i x → P x →
    (AllByRecursion P (drop i xs) ↔ Q) → (AllByRecursion P (drop (i + 1) xs) ↔ Q)
all_step {X = X} P xs i x within is holds so =
    let e = drop_item xs i x within is in (
      λ all. so.0 (subst (λ (l : List X). AllByRecursion P l) (sym e) (holds, all)),
      λ q. (subst (λ (l : List X). AllByRecursion P l) e (so.1 q)).1,
    )

-- one more item
pub length_more : {X : Type 0} (xs : List X) (x : X) → length (xs ++ x ∷ []) ≡ suc (length xs)
length_more [] x = refl
length_more (y ∷ xs) x = ap suc (length_more xs x)

pub map_more : {X Y : Type 0} (f : X → Y) (xs ys : List X) (x : X) → ys ≡ xs ++ x ∷ [] → map f ys ≡ map f xs ++ f x ∷ []
map_more f xs ys x is = ap (map f) is ∙ map-append f xs (x ∷ [])

pub no_items : {X : Type 0} (xs : List X) → length xs ≤ 0 → [] ≡ xs
no_items [] none = refl
no_items (x ∷ xs) none = absurd (omega arith)

-- a first item and the rest
pub same_items : {X : Type 0} (x y : X) (xs ys : List X) → x ∷ xs ≡ y ∷ ys → (x ≡ y) × (xs ≡ ys)
same_items x y xs ys e = (cc, cc)

-- what is left of two lists one behind another
pub drop_both : {X : Type 0} (n : ℕ) (xs ys : List X) → drop n (xs ++ ys) ≡ drop n xs ++ drop (n - length xs) ys
drop_both zero [] ys = refl
drop_both zero (x ∷ xs) ys = let e : 0 - suc (length xs) ≡ 0 = omega arith in rw e refl
drop_both (suc n) [] ys = let e : suc n - 0 ≡ suc n = omega arith in rw e refl
drop_both (suc n) (x ∷ xs) ys = let e : suc n - suc (length xs) ≡ n - length xs = omega arith in rw e (drop_both n xs ys)

-- images of one item several times
pub map_replicate : {X Y : Type 0} (f : X → Y) (n : ℕ) (x : X) → map f (replicate n x) ≡ replicate n (f x)
map_replicate f zero x = refl
map_replicate f (suc n) x = ap (λ ys. f x ∷ ys) (map_replicate f n x)

-- look-ups: what is found is an item, has an image, and stays found in a longer list
pub get_in : {X : Type 0} (xs : List X) (i : ℕ) (x : X) → slice_get xs i ≡ Some x → IsIn x xs
get_in [] i x e = absurd (let f : None ≡ Some x = e in cc)
get_in (y ∷ ys) zero x e = inl (let f : Some y ≡ Some x = e in cc)
get_in (y ∷ ys) (suc i) x e = inr (get_in ys i x e)

pub get_map : {X Y : Type 0} (f : X → Y) (xs : List X) (i : ℕ) (x : X) → slice_get xs i ≡ Some x → slice_get (map f xs) i ≡ Some (f x)
get_map f [] i x e = absurd (let g : None ≡ Some x = e in cc)
get_map f (y ∷ ys) zero x e = let g : Some y ≡ Some x = e in let h : y ≡ x = cc in ap (λ z. Some (f z)) h
get_map f (y ∷ ys) (suc i) x e = get_map f ys i x e

pub from_get : {X Y : Type 0} (f : X → Y) (xs : List X) (i : ℕ) (y : Y) → slice_get (map f xs) i ≡ Some y → (x : X) × (slice_get xs i ≡ Some x) × (f x ≡ y)
from_get f [] i y e = absurd (let g : None ≡ Some y = e in cc)
from_get f (x ∷ xs) zero y e = let g : Some (f x) ≡ Some y = e in let h : f x ≡ y = cc in (x, refl, h)
from_get f (x ∷ xs) (suc i) y e = from_get f xs i y e

pub get_front : {X : Type 0} (xs ys : List X) (i : ℕ) (x : X) → slice_get xs i ≡ Some x → slice_get (xs ++ ys) i ≡ Some x
get_front [] ys i x e = absurd (let g : None ≡ Some x = e in cc)
get_front (y ∷ xs) ys zero x e = e
get_front (y ∷ xs) ys (suc i) x e = get_front xs ys i x e

pub get_within : {X : Type 0} (xs ys : List X) (i : ℕ) → i < length xs → slice_get (xs ++ ys) i ≡ slice_get xs i
get_within [] ys i within = absurd (omega arith)
get_within (x ∷ xs) ys zero within = refl
get_within (x ∷ xs) ys (suc i) within = get_within xs ys i (omega arith)

pub get_back : {X : Type 0} (xs ys : List X) (i : ℕ) (x : X) → slice_get ys i ≡ Some x → slice_get (xs ++ ys) (length xs + i) ≡ Some x
get_back [] ys i x e = let n : 0 + i ≡ i = omega arith in ap (λ (k : ℕ). slice_get ys k) n ∙ e
get_back (y ∷ xs) ys i x e = let n : suc (length xs) + i ≡ suc (length xs + i) = omega arith in ap (λ (k : ℕ). slice_get (y ∷ (xs ++ ys)) k) n ∙ get_back xs ys i x e

pub get_last : {X : Type 0} (xs : List X) (x : X) → slice_get (xs ++ x ∷ []) (length xs) ≡ Some x
get_last [] x = refl
get_last (y ∷ xs) x = get_last xs x

pub get_or_zero : (xs : List ℕ) (i x : ℕ) → slice_get xs i ≡ Some x → slice_index_or xs i 0 ≡ x
get_or_zero [] i x e = absurd (let g : None ≡ Some x = e in cc)
get_or_zero (y ∷ ys) zero x e = let f : Some y ≡ Some x = e in cc
get_or_zero (y ∷ ys) (suc i) x e = get_or_zero ys i x e

-- within a list the default doesn't count
pub any_default : {X : Type 0} (xs : List X) (i : ℕ) (x z : X) → i < length xs → x ≡ get_or xs i x → x ≡ get_or xs i z
any_default [] i x z within e = absurd (omega arith)
any_default (y ∷ xs) zero x z within e = e
any_default (y ∷ xs) (suc i) x z within e = any_default xs i x z (omega arith) e

-- after a change of one item
pub get_set_same : {X : Type 0} (xs : List X) (i : ℕ) (x : X) → i < length xs → slice_get (set xs i x) i ≡ Some x
get_set_same [] i x within = absurd (omega arith)
get_set_same (y ∷ xs) zero x within = refl
get_set_same (y ∷ xs) (suc i) x within = get_set_same xs i x (omega arith)

pub get_set_other : {X : Type 0} (xs : List X) (i j : ℕ) (x : X) → j ≢ i → slice_get (set xs i x) j ≡ slice_get xs j
get_set_other [] i j x other = refl
get_set_other (y ∷ xs) zero zero x other = absurd (other refl)
get_set_other (y ∷ xs) zero (suc j) x other = refl
get_set_other (y ∷ xs) (suc i) zero x other = refl
get_set_other (y ∷ xs) (suc i) (suc j) x other = get_set_other xs i j x (λ e. other (ap suc e))

-- a list around the item that is found at a place
pub around : {X : Type 0} (xs : List X) (n : ℕ) (x : X) → slice_get xs n ≡ Some x → xs ≡ take n xs ++ x ∷ drop (suc n) xs
around [] n x e = absurd (let f : None ≡ Some x = e in cc)
around (y ∷ xs) zero x e = let f : Some y ≡ Some x = e in cc
around {X = X} (y ∷ xs) (suc n) x e = ap (λ (l : List X). y ∷ l) (around xs n x e)

pub drop_found : {X : Type 0} (xs : List X) (n : ℕ) (x : X) → slice_get xs n ≡ Some x → drop n xs ≡ x ∷ drop (suc n) xs
drop_found [] n x e = absurd (let f : None ≡ Some x = e in cc)
drop_found (y ∷ xs) zero x e = let f : Some y ≡ Some x = e in cc
drop_found (y ∷ xs) (suc n) x e = drop_found xs n x e

pub take_found : {X : Type 0} (xs : List X) (n : ℕ) (x : X) → slice_get xs n ≡ Some x → take (suc n) xs ≡ take n xs ++ x ∷ []
take_found [] n x e = absurd (let f : None ≡ Some x = e in cc)
take_found (y ∷ xs) zero x e = let f : Some y ≡ Some x = e in cc
take_found {X = X} (y ∷ xs) (suc n) x e = ap (λ (l : List X). y ∷ l) (take_found xs n x e)

-- lists with equal fronts of one length
pub same_fronts : {X : Type 0} (xs ys us vs : List X) → xs ++ ys ≡ us ++ vs → length xs ≡ length us → (xs ≡ us) × (ys ≡ vs)
same_fronts [] ys [] vs e long = (refl, e)
same_fronts [] ys (u ∷ us) vs e long = absurd (omega arith)
same_fronts (x ∷ xs) ys [] vs e long = absurd (omega arith)
same_fronts {X = X} (x ∷ xs) ys (u ∷ us) vs e long =
    let f : x ∷ (xs ++ ys) ≡ u ∷ (us ++ vs) = e in
    let head : x ≡ u = cc in
    let tail : xs ++ ys ≡ us ++ vs = cc in
    let rest = same_fronts xs ys us vs tail (omega arith) in
    (ap (λ (l : List X). x ∷ l) rest.0 ∙ ap (λ y. y ∷ us) head, rest.1)
