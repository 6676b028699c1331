-- Lists of numbers: their elements, sums of widths, and numbers one behind another.
use Rattle.std.proofs.Common.{◌≡◌, ℕ, zero, suc, ◌+◌, ◌-◌, ◌*◌, ◌^◌, ◌<◌, ◌≤◌, Bool, true, false, cond, List, [], ◌∷◌, ◌++◌, map, length, replicate, get_or, Some, None, refl, sym, ◌∙◌, ap, ap₂, inl, inr, arith}
use Rattle.std.specs.Prelude.{nat_eq, nat_lt, slice_get}
use Rattle.std.specs.List.{AllByRecursion}
use Rattle.std.proofs.lemmas.Bool.{cases_Bool, cases_lt, cond-true, cond-false}
use Rattle.std.proofs.lemmas.List.{length-map}
use Rattle.lola_bits.proofs.Places.{length_more}
use Rattle.std.proofs.lemmas.Bool.Decides.{nat_tests}
use Rattle.std.proofs.lemmas.Nat.{pow-add}
use Rattle.std.proofs.Math.Nat.{add-mul, mul_assoc}
use Rattle.lola_alg.specs.Means.{number_in, with_number}
use Rattle.lola_flat.specs.Numbers.{first_numbers}
use Rattle.lola_flat.specs.Value.{sum_of, joined_all}
use Rattle.lola_tree.specs.Value.{repeated}
use Rattle.lola_unfold.specs.Translated.{small}

-- a count of at most 1,024
pub small_is : (n : ℕ) → n ≤ 1024 → small n ≡ n
small_is n few = cond-true (nat_lt n 1025) n 0 (below n 1025 (omega arith))
  where
    below : (m k : ℕ) → m < k → nat_lt m k ≡ true
    below m k h = grind (arith, nat_tests)

-- an item of a list
pub get_is : {X : Type 0} (xs : List X) (n : ℕ) (z x : X) → slice_get xs n ≡ Some x → get_or xs n z ≡ x
get_is [] n z x is = absurd (let e : None ≡ Some x = is in cc)
get_is (y ∷ ys) zero z x is = let e : Some y ≡ Some x = is in cc
get_is (y ∷ ys) (suc n) z x is = get_is ys n z x is

pub get_inside : {X : Type 0} (xs : List X) (n : ℕ) (x : X) → slice_get xs n ≡ Some x → n < length xs
get_inside [] n x is = absurd (let e : None ≡ Some x = is in cc)
get_inside (y ∷ ys) zero x is = omega arith
get_inside (y ∷ ys) (suc n) x is = let h = get_inside ys n x is in omega arith

-- widths that are all the same
pub sum_same : (n w : ℕ) → sum_of (replicate n w) ≡ n * w
sum_same zero w = omega arith
sum_same (suc n) w = let h = sum_same n w in let e : suc n * w ≡ w + n * w = omega arith in ap (λ (k : ℕ). w + k) h ∙ sym e

pub length_same : {X : Type 0} (n : ℕ) (x : X) → length (replicate n x) ≡ n
length_same zero x = refl
length_same (suc n) x = ap suc (length_same n x)

pub first_same : (n w : ℕ) → 1 ≤ n → get_or (replicate n w) 0 0 ≡ w
first_same zero w some = absurd (omega arith)
first_same (suc n) w some = refl

pub all_are : (n w v : ℕ) → v ≡ w → AllByRecursion (λ (u : ℕ). u ≡ v) (replicate n w)
all_are zero w v same = tt
all_are (suc n) w v same = (sym same, all_are n w v same)

-- a number several times, from the front and from behind
moved : (n w x : ℕ) → x * 2 ^ (n * w) + repeated n w x ≡ repeated n w x * 2 ^ w + x
moved zero w x = let e : 2 ^ (0 * w) ≡ 1 = ap (λ (k : ℕ). 2 ^ k) (let z : 0 * w ≡ 0 = omega arith in z) in
    let f : x * 2 ^ (0 * w) ≡ x = ap (λ (k : ℕ). x * k) e ∙ (omega arith) in omega arith
moved (suc n) w x =
    let h = moved n w x in
    let size : suc n * w ≡ n * w + w = omega arith in
    let power : 2 ^ (suc n * w) ≡ 2 ^ (n * w) * 2 ^ w = ap (λ (k : ℕ). 2 ^ k) size ∙ pow-add 2 (n * w) w in
    let high : x * 2 ^ (suc n * w) ≡ x * 2 ^ (n * w) * 2 ^ w = ap (λ (k : ℕ). x * k) power ∙ sym (mul_assoc x (2 ^ (n * w)) (2 ^ w)) in
    let all : (x * 2 ^ (n * w) + repeated n w x) * 2 ^ w ≡ x * 2 ^ (n * w) * 2 ^ w + repeated n w x * 2 ^ w = add-mul (x * 2 ^ (n * w)) (repeated n w x) (2 ^ w) in
    let other : (x * 2 ^ (n * w) + repeated n w x) * 2 ^ w ≡ (repeated n w x * 2 ^ w + x) * 2 ^ w = ap (λ (k : ℕ). k * 2 ^ w) h in
    let next : repeated (suc n) w x ≡ repeated n w x * 2 ^ w + x = refl in
    let wide : repeated (suc n) w x * 2 ^ w ≡ (repeated n w x * 2 ^ w + x) * 2 ^ w = refl in
    omega (arith, high, all, other, next, wide)

pub joined_same : (n w x : ℕ) → joined_all (replicate n w) (replicate n x) ≡ repeated n w x
joined_same zero w x = refl
joined_same (suc n) w x =
    ap₂ (λ (k y : ℕ). x * 2 ^ k + y) (sum_same n w) (joined_same n w x) ∙ moved n w x

-- tests of numbers
some_other : (n : ℕ) → nat_eq (suc n) 0 ≡ false
some_other n = differs (suc n) 0 (λ e. omega arith)
  where
    differs : (m k : ℕ) → (m ≡ k → ⊥) → nat_eq m k ≡ false
    differs m k h = grind (arith, nat_tests)

none_other : (n : ℕ) → nat_eq 0 (suc n) ≡ false
none_other n = differs 0 (suc n) (λ e. omega arith)
  where
    differs : (m k : ℕ) → (m ≡ k → ⊥) → nat_eq m k ≡ false
    differs m k h = grind (arith, nat_tests)

more_same : (k n : ℕ) → nat_eq (suc k) (suc n) ≡ nat_eq k n
more_same k n = elim (cases_Bool (nat_eq k n)) [ inl same ↦ yes (suc k) (suc n) (let e = is k n same in omega arith) ∙ sym same | inr other ↦ no (suc k) (suc n) (λ e. not k n other (omega arith)) ∙ sym other ]
  where
    is : (a b : ℕ) → nat_eq a b ≡ true → a ≡ b
    is a b e = grind (arith, nat_tests)

    yes : (a b : ℕ) → a ≡ b → nat_eq a b ≡ true
    yes a b e = grind (arith, nat_tests)

    not : (a b : ℕ) → nat_eq a b ≡ false → a ≡ b → ⊥
    not a b e f = grind (arith, nat_tests)

    no : (a b : ℕ) → (a ≡ b → ⊥) → nat_eq a b ≡ false
    no a b h = grind (arith, nat_tests)

-- elements by their numbers
pub number_first : (x : ℕ) (xs : List ℕ) → number_in (x ∷ xs) 0 ≡ x
number_first x xs = refl

pub number_later : (x : ℕ) (xs : List ℕ) (n : ℕ) → number_in (x ∷ xs) (suc n) ≡ number_in xs n
number_later x xs n =
    let back : suc n - 1 ≡ n = omega arith in
    cond-false (nat_eq (suc n) 0) x (number_in xs (suc n - 1)) (some_other n) ∙ ap (number_in xs) back

pub number_front : (xs ys : List ℕ) (n : ℕ) → n < length xs → number_in (xs ++ ys) n ≡ number_in xs n
number_front [] ys n inside = absurd (omega arith)
number_front (x ∷ xs) ys zero inside = refl
number_front (x ∷ xs) ys (suc n) inside = number_later x (xs ++ ys) n ∙ number_front xs ys n (omega arith) ∙ sym (number_later x xs n)

pub number_last : (xs : List ℕ) (y n : ℕ) → n ≡ length xs → number_in (xs ++ y ∷ []) n ≡ y
number_last [] y n is = rw is refl
number_last (x ∷ xs) y zero is = absurd (omega arith)
number_last (x ∷ xs) y (suc n) is = number_later x (xs ++ y ∷ []) n ∙ number_last xs y n (omega arith)

pub number_past : (xs : List ℕ) (n : ℕ) → length xs ≤ n → number_in xs n ≡ 0
number_past [] n past = refl
number_past (x ∷ xs) zero past = absurd (omega arith)
number_past (x ∷ xs) (suc n) past = number_later x xs n ∙ number_past xs n (omega arith)

-- the first numbers
pub numbers_long : (n : ℕ) → length (first_numbers n) ≡ n
numbers_long zero = refl
numbers_long (suc n) = length_more (first_numbers n) n ∙ ap suc (numbers_long n)

pub values_long : (f : ℕ → ℕ) (n : ℕ) → length (map f (first_numbers n)) ≡ n
values_long f n = length-map (first_numbers n) f ∙ numbers_long n

pub map_last : (f : ℕ → ℕ) (xs : List ℕ) (y : ℕ) → map f (xs ++ y ∷ []) ≡ map f xs ++ f y ∷ []
map_last f [] y = refl
map_last f (x ∷ xs) y = ap (λ (l : List ℕ). f x ∷ l) (map_last f xs y)

-- the values of the first numbers
pub value_at : (f : ℕ → ℕ) (n k : ℕ) → k < n → number_in (map f (first_numbers n)) k ≡ f k
value_at f zero k inside = absurd (omega arith)
value_at f (suc n) k inside = ap (λ (l : List ℕ). number_in l k) (map_last f (first_numbers n) n) ∙ elim (cases_lt k n) [
  | inl early ↦ number_front (map f (first_numbers n)) (f n ∷ []) k (let e = values_long f n in omega arith) ∙ value_at f n k early
  | inr late ↦ let last : k ≡ n = omega arith in number_last (map f (first_numbers n)) (f n) k (last ∙ sym (values_long f n)) ∙ ap f (sym last)
]

-- lists with the same elements
pub same_numbers : (xs ys : List ℕ) → length xs ≡ length ys → ((n : ℕ) → n < length xs → number_in xs n ≡ number_in ys n) → xs ≡ ys
same_numbers [] [] long each = refl
same_numbers [] (y ∷ ys) long each = absurd (omega arith)
same_numbers (x ∷ xs) [] long each = absurd (omega arith)
same_numbers (x ∷ xs) (y ∷ ys) long each =
    ap₂ (λ (a : ℕ) (l : List ℕ). a ∷ l) (each zero (omega arith))
    (same_numbers xs ys (omega arith) (λ n inside. sym (number_later x xs n) ∙ each (suc n) (omega arith) ∙ number_later y ys n))

pub read_back : (xs : List ℕ) (n : ℕ) → length xs ≡ n → map (number_in xs) (first_numbers n) ≡ xs
read_back xs n long =
    same_numbers (map (number_in xs) (first_numbers n)) xs (values_long (number_in xs) n ∙ sym long)
    (λ k inside. value_at (number_in xs) n k (let e = values_long (number_in xs) n in omega arith))

pub same_values : (f g : ℕ → ℕ) (n : ℕ) → ((k : ℕ) → k < n → f k ≡ g k) → map f (first_numbers n) ≡ map g (first_numbers n)
same_values f g n each =
    same_numbers (map f (first_numbers n)) (map g (first_numbers n)) (values_long f n ∙ sym (values_long g n))
    (λ k inside. let less : k < n = (let e = values_long f n in omega arith) in value_at f n k less ∙ each k less ∙ sym (value_at g n k less))

-- a list with another element at a place
with_later : (x : ℕ) (xs : List ℕ) (n y : ℕ) → with_number (x ∷ xs) (suc n) y ≡ x ∷ with_number xs n y
with_later x xs n y =
    let back : suc n - 1 ≡ n = omega arith in
    cond-false (nat_eq (suc n) 0) (y ∷ xs) (x ∷ with_number xs (suc n - 1) y) (some_other n) ∙ ap (λ (k : ℕ). x ∷ with_number xs k y) back

pub with_long : (xs : List ℕ) (n y : ℕ) → length (with_number xs n y) ≡ length xs
with_long [] n y = refl
with_long (x ∷ xs) zero y = refl
with_long (x ∷ xs) (suc n) y = ap (λ (l : List ℕ). length l) (with_later x xs n y) ∙ ap suc (with_long xs n y)

pub with_at : (xs : List ℕ) (n y k : ℕ) → k < length xs → number_in (with_number xs n y) k ≡ cond (nat_eq k n) y (number_in xs k)
with_at [] n y k inside = absurd (omega arith)
with_at (x ∷ xs) zero y zero inside = refl
with_at (x ∷ xs) zero y (suc k) inside = number_later y xs k ∙ sym (number_later x xs k) ∙ sym (cond-false (nat_eq (suc k) 0) y (number_in (x ∷ xs) (suc k)) (some_other k))
with_at (x ∷ xs) (suc n) y zero inside = ap (λ (l : List ℕ). number_in l 0) (with_later x xs n y) ∙ sym (cond-false (nat_eq 0 (suc n)) y x (none_other n))
with_at (x ∷ xs) (suc n) y (suc k) inside =
    ap (λ (l : List ℕ). number_in l (suc k)) (with_later x xs n y) ∙ number_later x (with_number xs n y) k ∙ with_at xs n y k (omega arith)
    ∙ ap₂ (λ (b : Bool) (z : ℕ). cond b y z) (sym (more_same k n)) (sym (number_later x xs k))
