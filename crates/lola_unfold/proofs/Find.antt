-- The place of a path among paths, one list behind another.
use Rattle.std.proofs.Common.{◌≡◌, ℕ, suc, ◌+◌, ◌<◌, Bool, true, false, if◌then◌else◌, bytes_eq, List, [], ◌∷◌, ◌++◌, map, length, Option, Some, None, refl, sym, ap, ◌∙◌, arith}
use Rattle.lola_tree.specs.Value.{Path}
use Rattle.lola_design.specs.Paths.{path_eq}
use Rattle.lola_design.specs.Graph.{number_of}
use Rattle.lola_unfold.specs.Slots.{capped, plus}
use Rattle.lola_unfold.specs.Offsets.{shift, find}

abbrev pub first_found : Option ℕ → Option ℕ → Option ℕ
first_found None o = o
first_found (Some n) o = Some n

pub found_none : (o : Option ℕ) → first_found o None ≡ o
found_none None = refl
found_none (Some n) = refl

shift_zero : (o : Option ℕ) → shift 0 o ≡ o
shift_zero None = refl
shift_zero (Some k) = let e : 0 + k ≡ k = omega arith in ap Some e

shift_first : (n : ℕ) (a b : Option ℕ) → shift 1 (first_found a (shift n b)) ≡ first_found (shift 1 a) (shift (suc n) b)
shift_first n None None = refl
shift_first n None (Some k) = let e : 1 + (n + k) ≡ suc n + k = omega arith in ap Some e
shift_first n (Some k) b = refl

append_test : (b : Bool) (n : ℕ) (whole front behind : Option ℕ) → whole ≡ first_found front (shift n behind) →
    (if b then Some 0 else shift 1 whole) ≡ first_found (if b then Some 0 else shift 1 front) (shift (suc n) behind)
append_test true n whole front behind e = refl
append_test false n whole front behind e = ap (shift 1) e ∙ shift_first n front behind

pub find_append : (xs ys : List Path) (x : Path) → find (xs ++ ys) x ≡ first_found (find xs x) (shift (length xs) (find ys x))
find_append [] ys x = sym (shift_zero (find ys x))
find_append (y ∷ xs) ys x = append_test (path_eq y x) (length xs) (find (xs ++ ys) x) (find xs x) (find ys x) (find_append xs ys x)

-- behind a name
pub find_under : (l n : List ℕ) (rest : Path) (xs : List Path) → bytes_eq l n ≡ true → find (map (λ (y : Path). l ∷ y) xs) (n ∷ rest) ≡ find xs rest
find_under l n rest [] same = refl
find_under l n rest (x ∷ xs) same = rw same (ap (λ (o : Option ℕ). if path_eq x rest then Some 0 else shift 1 o) (find_under l n rest xs same))

pub find_other : (l n : List ℕ) (rest : Path) (xs : List Path) → bytes_eq l n ≡ false → find (map (λ (y : Path). l ∷ y) xs) (n ∷ rest) ≡ None
find_other l n rest [] other = refl
find_other l n rest (x ∷ xs) other = rw other (ap (shift 1) (find_other l n rest xs other))

pub find_empty : (l : List ℕ) (xs : List Path) → find (map (λ (y : Path). l ∷ y) xs) [] ≡ None
find_empty l [] = refl
find_empty l (x ∷ xs) = ap (shift 1) (find_empty l xs)

-- numbers that stand still
pub plus_shift : (n : ℕ) (o : Option ℕ) → plus (capped n) o ≡ plus 0 (shift n o)
plus_shift n None = refl
plus_shift n (Some k) = let e : capped (capped n + k) ≡ capped (0 + (n + k)) = omega arith in ap Some e

pub plus_plus : (n : ℕ) (o : Option ℕ) → plus n (plus 0 o) ≡ plus n o
plus_plus n None = refl
plus_plus n (Some k) = let e : capped (n + capped (0 + k)) ≡ capped (n + k) = omega arith in ap Some e

-- a number is that of a place, or how many there are
abbrev pub or_all : ℕ → Option ℕ → ℕ
or_all n None = n
or_all n (Some k) = k

all_test : (b : Bool) (n : ℕ) (k : ℕ) (o : Option ℕ) → k ≡ or_all n o → (if b then 0 else suc k) ≡ or_all (suc n) (if b then Some 0 else shift 1 o)
all_test true n k o e = refl
all_test false n k None e = ap suc e
all_test false n k (Some j) e = ap suc e ∙ (let f : suc j ≡ 1 + j = omega arith in f)

pub number_found : (xs : List Path) (x : Path) → number_of xs x ≡ or_all (length xs) (find xs x)
number_found [] x = refl
number_found (y ∷ xs) x = all_test (path_eq y x) (length xs) (number_of xs x) (find xs x) (number_found xs x)

abbrev pub IsBelow : ℕ → Option ℕ → Type 0
IsBelow n None = Unit {0}
IsBelow n (Some k) = k < n

below_test : (b : Bool) (n : ℕ) (o : Option ℕ) → IsBelow n o → IsBelow (suc n) (if b then Some 0 else shift 1 o)
below_test true n o e = omega arith
below_test false n None e = tt
below_test false n (Some k) e = omega arith

pub found_below : (xs : List Path) (x : Path) → IsBelow (length xs) (find xs x)
found_below [] x = tt
found_below (y ∷ xs) x = below_test (path_eq y x) (length xs) (find xs x) (found_below xs x)
