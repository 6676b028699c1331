-- The loops over bits, elements and names.
use Rattle.std.proofs.Common.{◌≡◌, ℕ, zero, suc, ◌+◌, ◌-◌, ◌*◌, ◌<◌, ◌≤◌, List, [], ◌∷◌, ◌++◌, flat_map, refl, sym, ◌∙◌, ap, subst, arith, append_assoc, append-nil}
use Rattle.lola_flat.specs.Numbers.{first_numbers}
use Rattle.lola_lower.specs.Names.{bit_name, names_down}
use Rattle.lola_lower.specs.Sources.{bits_at, elements_at}

-- what is left, with its first part
left_more : (n k : ℕ) → k < n → n - k ≡ suc (n - 1 - k)
left_more n k within = omega arith

left_behind : (n k : ℕ) → n - 1 - k ≡ n - (k + 1)
left_behind n k = omega arith

pub names_left : (text : List ℕ) (width k : ℕ) → k < width → names_down text (width - k) ≡ bit_name text (width - 1 - k) ∷ names_down text (width - (k + 1))
names_left text width k within = ap (names_down text) (left_more width k within) ∙ ap (λ n. bit_name text (width - 1 - k) ∷ names_down text n) (left_behind width k)

pub bits_left : (first width k : ℕ) → k < width → bits_at first (width - k) ≡ 2 * (first + (width - 1 - k)) ∷ bits_at first (width - (k + 1))
bits_left first width k within = ap (bits_at first) (left_more width k within) ∙ ap (λ n. 2 * (first + (width - 1 - k)) ∷ bits_at first n) (left_behind width k)

pub elements_left : (first width count k : ℕ) → k < count → elements_at first width (count - k) ≡ bits_at first width ∷ elements_at (first + width) width (count - (k + 1))
elements_left first width count k within = ap (elements_at first width) (left_more count k within) ∙ ap (λ n. bits_at first width ∷ elements_at (first + width) width n) (left_behind count k)

times_suc : (k w : ℕ) → suc k * w ≡ w + k * w
times_suc k w = omega arith

pub times_left : (width count k : ℕ) → k < count → (count - k) * width ≡ width + (count - (k + 1)) * width
times_left width count k within = ap (λ n. n * width) (left_more count k within ∙ ap suc (left_behind count k)) ∙ times_suc (count - (k + 1)) width

-- one item more, at the end
pub item_more : {X : Type 0} (before made whole rest : List X) (x : X) → before ++ x ∷ rest ≡ whole → made ≡ before ++ x ∷ [] → made ++ rest ≡ whole
item_more before made whole rest x is more = ap (λ l. l ++ rest) more ∙ append_assoc before (x ∷ []) rest ∙ is

flat_append : {X Y : Type 0} (f : X → List Y) (xs ys : List X) → flat_map f (xs ++ ys) ≡ flat_map f xs ++ flat_map f ys
flat_append f [] ys = refl
flat_append f (x ∷ xs) ys = ap (λ l. f x ++ l) (flat_append f xs ys) ∙ sym (append_assoc (f x) (flat_map f xs) (flat_map f ys))

pub flat_more : {X Y : Type 0} (f : X → List Y) (xs : List X) (x : X) → flat_map f (xs ++ x ∷ []) ≡ flat_map f xs ++ f x
flat_more f xs x = flat_append f xs (x ∷ []) ∙ ap (λ l. flat_map f xs ++ l) (append-nil (f x))
