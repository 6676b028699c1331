-- Lists of truth values compared, from the lowest up.
use Rattle.std.proofs.Common.{◌≡◌, ℕ, ◌+◌, ◌*◌, Bool, true, false, cond, not, ◌&&◌, List, [], ◌∷◌, length, nat_eq, nat_lt, refl, ◌∙◌, arith}
use Rattle.std.proofs.lemmas.Bool.Decides.{nat_tests}
use Rattle.lola_bits.specs.Number.{number}
use Rattle.lola_bits.specs.BitLists.{number_of}
use Rattle.lola_alg.proofs.Bools.{differ, fold_of}

-- equal so far and here
abbrev pub same_here : Bool → Bool → Bool → Bool
same_here x y so = so && not (differ x y)

-- less by this bit where they differ, and else as so far
abbrev pub below_here : Bool → Bool → Bool → Bool
below_here x y so = cond (differ x y) y so

-- lists are equal where their numbers are
pub same_number : (xs ys : List Bool) (so : Bool) → length ys ≡ length xs → fold_of same_here xs ys so ≡ (so && nat_eq (number_of xs) (number_of ys))
same_number [] [] so e = same_and so
  where
    same_and : (b : Bool) → b ≡ (b && true)
    same_and true = refl
    same_and false = refl
same_number [] (y ∷ ys) so e = absurd (omega arith)
same_number (x ∷ xs) [] so e = absurd (omega arith)
same_number (x ∷ xs) (y ∷ ys) so e = same_number xs ys (same_here x y so) (omega arith) ∙ step x y so (number_of xs) (number_of ys)
  where
    step : (a b k : Bool) (n m : ℕ) → (same_here a b k && nat_eq n m) ≡ (k && nat_eq (number a + 2 * n) (number b + 2 * m))
    step true true true n m = grind (arith, nat_tests)
    step true false true n m = grind (arith, nat_tests)
    step false true true n m = grind (arith, nat_tests)
    step false false true n m = grind (arith, nat_tests)
    step a b false n m = refl

-- the highest bit that differs decides, and the start where none does
pub below_number : (xs ys : List Bool) (so : Bool) → length ys ≡ length xs → fold_of below_here xs ys so ≡ cond (nat_eq (number_of xs) (number_of ys)) so (nat_lt (number_of xs) (number_of ys))
below_number [] [] so e = refl
below_number [] (y ∷ ys) so e = absurd (omega arith)
below_number (x ∷ xs) [] so e = absurd (omega arith)
below_number (x ∷ xs) (y ∷ ys) so e = below_number xs ys (below_here x y so) (omega arith) ∙ step x y so (number_of xs) (number_of ys)
  where
    step : (a b k : Bool) (n m : ℕ) → cond (nat_eq n m) (below_here a b k) (nat_lt n m) ≡ cond (nat_eq (number a + 2 * n) (number b + 2 * m)) k (nat_lt (number a + 2 * n) (number b + 2 * m))
    step true true k n m = grind (arith, nat_tests)
    step true false k n m = grind (arith, nat_tests)
    step false true k n m = grind (arith, nat_tests)
    step false false k n m = grind (arith, nat_tests)

-- from a start that is false they are below where the number is
pub below_from : (xs ys : List Bool) → length ys ≡ length xs → fold_of below_here xs ys false ≡ nat_lt (number_of xs) (number_of ys)
below_from xs ys e = below_number xs ys false e ∙ tests (number_of xs) (number_of ys)
  where
    tests : (n m : ℕ) → cond (nat_eq n m) false (nat_lt n m) ≡ nat_lt n m
    tests n m = grind (arith, nat_tests)
