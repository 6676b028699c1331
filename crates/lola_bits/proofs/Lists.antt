-- Items among those of lists, and lists in which none comes twice.
use Rattle.std.proofs.Common.{◌≡◌, ◌⊎◌, ℕ, zero, suc, ◌≤◌, Bool, true, List, [], ◌∷◌, ◌++◌, length, map, take, drop, refl, sym, ◌∙◌, ap, subst, inl, inr, arith}
use Rattle.std.specs.Prelude.{flat_map}
use Rattle.std.specs.List.{filter}
use Rattle.std.proofs.lemmas.Bool.{cases_Bool, cond-true, cond-false}
use Rattle.std.proofs.lemmas.List.{take-append-drop}
use Rattle.lola_bits.specs.Lists.{IsIn, AreDistinct}

-- items of two lists
pub in_front : {X : Type 0} (x : X) (xs ys : List X) → IsIn x xs → IsIn x (xs ++ ys)
in_front x [] ys among = absurd among
in_front x (y ∷ xs) ys (inl same) = inl same
in_front x (y ∷ xs) ys (inr later) = inr (in_front x xs ys later)

pub in_back : {X : Type 0} (x : X) (xs ys : List X) → IsIn x ys → IsIn x (xs ++ ys)
in_back x [] ys among = among
in_back x (y ∷ xs) ys among = inr (in_back x xs ys among)

pub in_either : {X : Type 0} (x : X) (xs ys : List X) → IsIn x (xs ++ ys) → IsIn x xs ⊎ IsIn x ys
in_either x [] ys among = inr among
in_either x (y ∷ xs) ys (inl same) = inl (inl same)
in_either x (y ∷ xs) ys (inr later) = elim (in_either x xs ys later) [ inl front ↦ inl (inr front) | inr back ↦ inr back ]

-- the last item, and those before it
pub in_last : {X : Type 0} (x : X) (xs : List X) → IsIn x (xs ++ x ∷ [])
in_last x xs = in_back x xs (x ∷ []) (inl refl)

pub but_last : {X : Type 0} (x y : X) (xs : List X) → IsIn x (xs ++ y ∷ []) → (x ≡ y) ⊎ IsIn x xs
but_last x y xs among = elim (in_either x xs (y ∷ []) among) [ inl front ↦ inr front | inr back ↦ elim back [ inl same ↦ inl same | inr none ↦ absurd none ] ]

-- an item stands between a front and what is behind it
pub parted : {X : Type 0} (x : X) (xs : List X) → IsIn x xs → (front : List X) × (behind : List X) × (xs ≡ front ++ x ∷ behind)
parted x [] among = absurd among
parted x (y ∷ xs) (inl same) = ([], xs, ap (λ z. z ∷ xs) (sym same))
parted x (y ∷ xs) (inr later) = let r = parted x xs later in (y ∷ r.0, r.1, ap (λ zs. y ∷ zs) r.2)

pub is_between : {X : Type 0} (x : X) (front behind : List X) → IsIn x (front ++ x ∷ behind)
is_between x front behind = in_back x front (x ∷ behind) (inl refl)

-- items of a front, and of what is left
pub in_take : {X : Type 0} (n : ℕ) (x : X) (xs : List X) → IsIn x (take n xs) → IsIn x xs
in_take zero x xs among = absurd among
in_take (suc n) x [] among = among
in_take (suc n) x (y ∷ xs) (inl same) = inl same
in_take (suc n) x (y ∷ xs) (inr later) = inr (in_take n x xs later)

pub in_drop : {X : Type 0} (n : ℕ) (x : X) (xs : List X) → IsIn x (drop n xs) → IsIn x xs
in_drop zero x xs among = among
in_drop (suc n) x [] among = among
in_drop (suc n) x (y ∷ xs) among = inr (in_drop n x xs among)

-- images of items
pub to_map : {X Y : Type 0} (f : X → Y) (x : X) (xs : List X) → IsIn x xs → IsIn (f x) (map f xs)
to_map f x [] among = absurd among
to_map f x (y ∷ ys) (inl same) = inl (ap f same)
to_map f x (y ∷ ys) (inr later) = inr (to_map f x ys later)

pub from_map : {X Y : Type 0} (f : X → Y) (y : Y) (xs : List X) → IsIn y (map f xs) → (x : X) × IsIn x xs × (y ≡ f x)
from_map f y [] among = absurd among
from_map f y (x ∷ xs) (inl same) = (x, inl refl, same)
from_map f y (x ∷ xs) (inr later) = let found = from_map f y xs later in (found.0, inr found.1, found.2)

-- items of the lists that items make
pub to_flat_map : {X Y : Type 0} (f : X → List Y) (y : Y) (x : X) (xs : List X) → IsIn x xs → IsIn y (f x) → IsIn y (flat_map f xs)
to_flat_map f y x [] among is = absurd among
to_flat_map f y x (z ∷ xs) (inl same) is = in_front y (f z) (flat_map f xs) (subst (λ w. IsIn y (f w)) same is)
to_flat_map f y x (z ∷ xs) (inr later) is = in_back y (f z) (flat_map f xs) (to_flat_map f y x xs later is)

pub from_flat_map : {X Y : Type 0} (f : X → List Y) (y : Y) (xs : List X) → IsIn y (flat_map f xs) → (x : X) × IsIn x xs × IsIn y (f x)
from_flat_map f y [] among = absurd among
from_flat_map f y (x ∷ xs) among = elim (in_either y (f x) (flat_map f xs) among) [
  | inl here ↦ (x, inl refl, here)
  | inr later ↦ let found = from_flat_map f y xs later in (found.0, inr found.1, found.2)
]

-- items that a test keeps
pub in_filter : {X : Type 0} (test : X → Bool) (x : X) (xs : List X) → IsIn x xs → test x ≡ true → IsIn x (filter test xs)
in_filter test x [] among passes = absurd among
in_filter test x (y ∷ xs) (inl same) passes = rw (ap test (sym same) ∙ passes) (inl same)
in_filter test x (y ∷ xs) (inr later) passes = elim (cases_Bool (test y)) [
  | inl kept ↦ rw kept (inr (in_filter test x xs later passes))
  | inr dropped ↦ rw dropped (in_filter test x xs later passes)
]

pub from_filter : {X : Type 0} (test : X → Bool) (x : X) (xs : List X) → IsIn x (filter test xs) → IsIn x xs × (test x ≡ true)
from_filter test x [] among = absurd among
from_filter {X = X} test x (y ∷ xs) among = elim (cases_Bool (test y)) [
  | inl kept ↦
      let more : IsIn x (y ∷ filter test xs) = subst (λ (l : List X). IsIn x l) (cond-true (test y) (y ∷ filter test xs) (filter test xs) kept) among in
      elim more [ inl same ↦ (inl same, ap test same ∙ kept) | inr later ↦ (inr (from_filter test x xs later).0, (from_filter test x xs later).1) ]
  | inr dropped ↦
      let less : IsIn x (filter test xs) = subst (λ (l : List X). IsIn x l) (cond-false (test y) (y ∷ filter test xs) (filter test xs) dropped) among in
      (inr (from_filter test x xs less).0, (from_filter test x xs less).1)
]

pub filter_few : {X : Type 0} (test : X → Bool) (xs : List X) → length (filter test xs) ≤ length xs
filter_few test [] = omega arith
filter_few test (x ∷ xs) = let h = filter_few test xs in elim (cases_Bool (test x)) [
  | inl kept ↦ rw kept (omega arith)
  | inr dropped ↦ rw dropped (omega arith)
]

-- lists that are empty together
pub both_none : {X : Type 0} (xs ys : List X) → xs ++ ys ≡ [] → (xs ≡ []) × (ys ≡ [])
both_none [] ys e = (refl, e)
both_none (x ∷ xs) ys e = absurd (cc)

-- distinct items of two lists
pub distinct_front : {X : Type 0} (xs ys : List X) → AreDistinct (xs ++ ys) → AreDistinct xs
distinct_front [] ys distinct = tt
distinct_front (x ∷ xs) ys distinct = (λ is. distinct.0 (in_front x xs ys is), distinct_front xs ys distinct.1)

pub distinct_back : {X : Type 0} (xs ys : List X) → AreDistinct (xs ++ ys) → AreDistinct ys
distinct_back [] ys distinct = distinct
distinct_back (x ∷ xs) ys distinct = distinct_back xs ys distinct.1

pub apart : {X : Type 0} (x : X) (xs ys : List X) → AreDistinct (xs ++ ys) → IsIn x xs → IsIn x ys → ⊥
apart x [] ys distinct p q = p
apart x (z ∷ xs) ys distinct (inl p) q = distinct.0 (subst (λ y. IsIn y (xs ++ ys)) p (in_back x xs ys q))
apart x (z ∷ xs) ys distinct (inr p) q = apart x xs ys distinct.1 p q

pub distinct_join : {X : Type 0} (xs ys : List X) → AreDistinct xs → AreDistinct ys → ((x : X) → IsIn x xs → IsIn x ys → ⊥) → AreDistinct (xs ++ ys)
distinct_join [] ys p q other = q
distinct_join (x ∷ xs) ys p q other =
    (λ is. elim (in_either x xs ys is) [ inl front ↦ p.0 front | inr back ↦ other x (inl refl) back ], distinct_join xs ys p.1 q (λ y among. other y (inr among)))

-- the back before the front
pub distinct_turned : {X : Type 0} (xs ys : List X) → AreDistinct (xs ++ ys) → AreDistinct (ys ++ xs)
distinct_turned xs ys distinct = distinct_join ys xs (distinct_back xs ys distinct) (distinct_front xs ys distinct) (λ x p q. apart x xs ys distinct q p)

pub distinct_take : {X : Type 0} (n : ℕ) (xs : List X) → AreDistinct xs → AreDistinct (take n xs)
distinct_take n xs distinct = distinct_front (take n xs) (drop n xs) (subst AreDistinct (sym (take-append-drop n xs)) distinct)

-- images that stay distinct where a test drops items
pub distinct_filter : {X Y : Type 0} (f : X → Y) (test : X → Bool) (xs : List X) → AreDistinct (map f xs) → AreDistinct (map f (filter test xs))
distinct_filter f test [] distinct = tt
distinct_filter {Y = Y} f test (x ∷ xs) distinct = elim (cases_Bool (test x)) [
  | inl kept ↦ rw kept (
    (λ is. let found = from_map f (f x) (filter test xs) is in
        distinct.0 (subst (λ (y : Y). IsIn y (map f xs)) (sym found.2) (to_map f found.0 xs (from_filter test found.0 xs found.1).0))),
    distinct_filter f test xs distinct.1,
  )
  | inr dropped ↦ rw dropped (distinct_filter f test xs distinct.1)
]

-- two items with one image are one, where images are distinct
pub same_item : {X Y : Type 0} (f : X → Y) (x y : X) (xs : List X) → AreDistinct (map f xs) → IsIn x xs → IsIn y xs → f x ≡ f y → x ≡ y
same_item f x y [] distinct p q e = absurd p
same_item f x y (z ∷ xs) distinct (inl p) (inl q) e = p ∙ sym q
same_item {Y = Y} f x y (z ∷ xs) distinct (inl p) (inr q) e =
    absurd (distinct.0 (subst (λ (image : Y). IsIn image (map f xs)) (sym e ∙ ap f p) (to_map f y xs q)))
same_item {Y = Y} f x y (z ∷ xs) distinct (inr p) (inl q) e =
    absurd (distinct.0 (subst (λ (image : Y). IsIn image (map f xs)) (e ∙ ap f q) (to_map f x xs p)))
same_item f x y (z ∷ xs) distinct (inr p) (inr q) e = same_item f x y xs distinct.1 p q e
