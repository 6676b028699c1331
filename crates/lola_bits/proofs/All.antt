-- What all items of lists have.
use Rattle.std.proofs.Common.{ℕ, zero, suc, ◌<◌, List, [], ◌∷◌, ◌++◌, map, take, drop, replicate, get_or, set, length, refl, sym, subst, inl, inr, arith}
use Rattle.std.specs.Prelude.{flat_map}
use Rattle.std.specs.List.{AllByRecursion}
use Rattle.lola_bits.specs.Lists.{IsIn}

-- an item has what all have, and all have what each has
pub of_all : {X : Type 0} (P : X → Type 0) (x : X) (xs : List X) → AllByRecursion P xs → IsIn x xs → P x
of_all P x [] all among = absurd among
of_all P x (y ∷ ys) all (inl same) = subst P (sym same) all.0
of_all P x (y ∷ ys) all (inr later) = of_all P x ys all.1 later

pub all_of : {X : Type 0} (P : X → Type 0) (xs : List X) → ((x : X) → IsIn x xs → P x) → AllByRecursion P xs
all_of P [] each = tt
all_of P (x ∷ xs) each = (each x (inl refl), all_of P xs (λ y among. each y (inr among)))

pub all_weaker : {X : Type 0} (P Q : X → Type 0) → ((x : X) → P x → Q x) → (xs : List X) → AllByRecursion P xs → AllByRecursion Q xs
all_weaker P Q f [] all = tt
all_weaker P Q f (x ∷ xs) all = (f x all.0, all_weaker P Q f xs all.1)

-- two lists
pub all_append : {X : Type 0} (P : X → Type 0) (xs ys : List X) → AllByRecursion P xs → AllByRecursion P ys → AllByRecursion P (xs ++ ys)
all_append P [] ys p q = q
all_append P (x ∷ xs) ys p q = (p.0, all_append P xs ys p.1 q)

pub all_more : {X : Type 0} (P : X → Type 0) (xs : List X) (x : X) → AllByRecursion P xs → P x → AllByRecursion P (xs ++ x ∷ [])
all_more P xs x all one = all_append P xs (x ∷ []) all (one, tt)

pub all_front : {X : Type 0} (P : X → Type 0) (xs ys : List X) → AllByRecursion P (xs ++ ys) → AllByRecursion P xs
all_front P [] ys all = tt
all_front P (x ∷ xs) ys all = (all.0, all_front P xs ys all.1)

pub all_back : {X : Type 0} (P : X → Type 0) (xs ys : List X) → AllByRecursion P (xs ++ ys) → AllByRecursion P ys
all_back P [] ys all = all
all_back P (x ∷ xs) ys all = all_back P xs ys all.1

-- images
pub all_map : {X Y : Type 0} (P : X → Type 0) (Q : Y → Type 0) (f : X → Y) → ((x : X) → P x → Q (f x)) → (xs : List X) → AllByRecursion P xs → AllByRecursion Q (map f xs)
all_map P Q f g [] all = tt
all_map P Q f g (x ∷ xs) all = (g x all.0, all_map P Q f g xs all.1)

pub all_mapped : {X Y : Type 0} (P : Y → Type 0) (f : X → Y) (xs : List X) → AllByRecursion P (map f xs) → AllByRecursion (λ x. P (f x)) xs
all_mapped P f [] all = tt
all_mapped P f (x ∷ xs) all = (all.0, all_mapped P f xs all.1)

pub all_flat : {X Y : Type 0} (P : Y → Type 0) (f : X → List Y) (x : X) (xs : List X) → AllByRecursion P (flat_map f xs) → IsIn x xs → AllByRecursion P (f x)
all_flat P f x [] all among = absurd among
all_flat P f x (y ∷ ys) all (inl same) = subst (λ z. AllByRecursion P (f z)) (sym same) (all_front P (f y) (flat_map f ys) all)
all_flat P f x (y ∷ ys) all (inr later) = all_flat P f x ys (all_back P (f y) (flat_map f ys) all) later

-- a front, what is left, one item several times, and one item in another's place
pub all_take : {X : Type 0} (P : X → Type 0) (n : ℕ) (xs : List X) → AllByRecursion P xs → AllByRecursion P (take n xs)
all_take P zero xs all = tt
all_take P (suc n) [] all = tt
all_take P (suc n) (x ∷ xs) all = (all.0, all_take P n xs all.1)

pub all_drop : {X : Type 0} (P : X → Type 0) (n : ℕ) (xs : List X) → AllByRecursion P xs → AllByRecursion P (drop n xs)
all_drop P zero xs all = all
all_drop P (suc n) [] all = tt
all_drop P (suc n) (x ∷ xs) all = all_drop P n xs all.1

pub all_same : {X : Type 0} (P : X → Type 0) (n : ℕ) (x : X) → P x → AllByRecursion P (replicate n x)
all_same P zero x one = tt
all_same P (suc n) x one = (one, all_same P n x one)

pub all_set : {X : Type 0} (P : X → Type 0) (xs : List X) (n : ℕ) (x : X) → P x → AllByRecursion P xs → AllByRecursion P (set xs n x)
all_set P [] n x one all = tt
all_set P (y ∷ xs) zero x one all = (one, all.1)
all_set P (y ∷ xs) (suc n) x one all = (all.0, all_set P xs n x one all.1)

-- the item at a place, and where the default has it too, at any number
pub at_place : {X : Type 0} (P : X → Type 0) (xs : List X) (n : ℕ) (z : X) → n < length xs → AllByRecursion P xs → P (get_or xs n z)
at_place P [] n z inside all = absurd (omega arith)
at_place P (x ∷ xs) zero z inside all = all.0
at_place P (x ∷ xs) (suc n) z inside all = at_place P xs n z (omega arith) all.1

pub at_any_place : {X : Type 0} (P : X → Type 0) (xs : List X) (n : ℕ) (z : X) → P z → AllByRecursion P xs → P (get_or xs n z)
at_any_place P [] n z one all = one
at_any_place P (x ∷ xs) zero z one all = all.0
at_any_place P (x ∷ xs) (suc n) z one all = at_any_place P xs n z one all.1
