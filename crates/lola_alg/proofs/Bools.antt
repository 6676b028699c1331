-- Lists of truth values, the lowest first, and the numbers that they make.
use Rattle.std.proofs.Common.{◌≡◌, ℕ, suc, ◌+◌, ◌*◌, ◌%◌, ◌^◌, ◌<◌, Bool, true, false, cond, not, ◌&&◌, List, [], ◌∷◌, map, length, bit_and, bit_or, bit_xor, refl, sym, ap, ap₂, ◌∙◌, arith}
use Rattle.std.proofs.lemmas.Nat.{and_block, or_block, xor_block}
use Rattle.lola_bits.specs.Number.{number}
use Rattle.lola_bits.proofs.BitLists.{number_lt, pow_more, mod_more}
use Rattle.lola_bits.specs.BitLists.{number_of}

-- as the steps make it: not (not a and not b)
abbrev pub either : Bool → Bool → Bool
either a b = not (not a && not b)

-- one of them alone
abbrev pub differ : Bool → Bool → Bool
differ true b = not b
differ false b = b

-- two lists bit by bit, as long as the shorter
abbrev pub pairs_of : (Bool → Bool → Bool) → List Bool → List Bool → List Bool
pairs_of f [] ys = []
pairs_of f (x ∷ xs) [] = []
pairs_of f (x ∷ xs) (y ∷ ys) = f x y ∷ pairs_of f xs ys

-- from the lowest on, what is so far goes into the next
abbrev pub fold_of : (Bool → Bool → Bool → Bool) → List Bool → List Bool → Bool → Bool
fold_of f [] ys so = so
fold_of f (x ∷ xs) [] so = so
fold_of f (x ∷ xs) (y ∷ ys) so = fold_of f xs ys (f x y so)

pub pairs_long : (f : Bool → Bool → Bool) (xs ys : List Bool) → length ys ≡ length xs → length (pairs_of f xs ys) ≡ length xs
pairs_long f [] ys e = refl
pairs_long f (x ∷ xs) [] e = absurd (omega arith)
pairs_long f (x ∷ xs) (y ∷ ys) e = ap suc (pairs_long f xs ys (omega arith))

-- a list and the list of the other values make the highest number together
pub not_number : (xs : List Bool) → number_of (map not xs) + number_of xs + 1 ≡ 2 ^ length xs
not_number [] = omega arith
not_number (true ∷ xs) = let h = not_number xs in let p = pow_more (length xs) in omega arith
not_number (false ∷ xs) = let h = not_number xs in let p = pow_more (length xs) in omega arith

-- an operator on numbers that goes bit by bit
abbrev pub IsBitwise : (ℕ → ℕ → ℕ) → Type 0
IsBitwise f = (a b r s : ℕ) → r < 2 ^ 1 → s < 2 ^ 1 → f (a * 2 ^ 1 + r) (b * 2 ^ 1 + s) ≡ f a b * 2 ^ 1 + f r s

pairs_number : (g : Bool → Bool → Bool) (f : ℕ → ℕ → ℕ) → f 0 0 ≡ 0 → ((a b : Bool) → number (g a b) ≡ f (number a) (number b)) → IsBitwise f →
    (xs ys : List Bool) → length ys ≡ length xs → number_of (pairs_of g xs ys) ≡ f (number_of xs) (number_of ys)
pairs_number g f none here block [] [] e = sym none
pairs_number g f none here block [] (y ∷ ys) e = absurd (omega arith)
pairs_number g f none here block (x ∷ xs) [] e = absurd (omega arith)
pairs_number g f none here block (x ∷ xs) (y ∷ ys) e =
    let one : number x + 2 * number_of xs ≡ number_of xs * 2 ^ 1 + number x = omega arith in
    let two : number y + 2 * number_of ys ≡ number_of ys * 2 ^ 1 + number y = omega arith in
    let made : number (g x y) + 2 * number_of (pairs_of g xs ys) ≡ number_of (pairs_of g xs ys) * 2 ^ 1 + number (g x y) = omega arith in
    made ∙ (ap₂ (λ n k. n * 2 ^ 1 + k) (pairs_number g f none here block xs ys (omega arith)) (here x y)
    ∙ (sym (block (number_of xs) (number_of ys) (number x) (number y) (number_lt x) (number_lt y)) ∙ ap₂ f (sym one) (sym two)))

pub and_number : (xs ys : List Bool) → length ys ≡ length xs → number_of (pairs_of (λ a b. a && b) xs ys) ≡ bit_and (number_of xs) (number_of ys)
and_number = pairs_number (λ a b. a && b) bit_and refl bits (and_block 1)
  where
    bits : (a b : Bool) → number (a && b) ≡ bit_and (number a) (number b)
    bits true true = refl
    bits true false = refl
    bits false true = refl
    bits false false = refl

pub or_number : (xs ys : List Bool) → length ys ≡ length xs → number_of (pairs_of either xs ys) ≡ bit_or (number_of xs) (number_of ys)
or_number = pairs_number either bit_or refl bits (or_block 1)
  where
    bits : (a b : Bool) → number (either a b) ≡ bit_or (number a) (number b)
    bits true true = refl
    bits true false = refl
    bits false true = refl
    bits false false = refl

pub xor_number : (xs ys : List Bool) → length ys ≡ length xs → number_of (pairs_of differ xs ys) ≡ bit_xor (number_of xs) (number_of ys)
xor_number = pairs_number differ bit_xor refl bits (xor_block 1)
  where
    bits : (a b : Bool) → number (differ a b) ≡ bit_xor (number a) (number b)
    bits true true = refl
    bits true false = refl
    bits false true = refl
    bits false false = refl

-- a choice bit by bit is the choice of the whole
pub choose_pairs : (t : Bool) (xs ys : List Bool) → length ys ≡ length xs → pairs_of (λ a b. cond t a b) xs ys ≡ cond t xs ys
choose_pairs true [] [] e = refl
choose_pairs false [] [] e = refl
choose_pairs t [] (y ∷ ys) e = absurd (omega arith)
choose_pairs t (x ∷ xs) [] e = absurd (omega arith)
choose_pairs true (x ∷ xs) (y ∷ ys) e = ap (λ zs. x ∷ zs) (choose_pairs true xs ys (omega arith))
choose_pairs false (x ∷ xs) (y ∷ ys) e = ap (λ zs. y ∷ zs) (choose_pairs false xs ys (omega arith))

-- the sum of two bits and a carry, the carry that it makes, and the sum of two lists from a carry on
abbrev pub sum_bit : Bool → Bool → Bool → Bool
sum_bit x y c = differ (differ x y) c

abbrev pub next_carry : Bool → Bool → Bool → Bool
next_carry x y c = either (x && y) (differ x y && c)

abbrev pub add_of : List Bool → List Bool → Bool → List Bool
add_of [] ys c = []
add_of (x ∷ xs) [] c = []
add_of (x ∷ xs) (y ∷ ys) c = sum_bit x y c ∷ add_of xs ys (next_carry x y c)

-- the number of a sum is the sum of the numbers, less what does not fit
pub add_number : (xs ys : List Bool) (c : Bool) → length ys ≡ length xs → number_of (add_of xs ys c) ≡ (number_of xs + number_of ys + number c) % 2 ^ length xs
add_number [] ys c e = omega arith
add_number (x ∷ xs) [] c e = absurd (omega arith)
add_number (x ∷ xs) (y ∷ ys) c e =
    let h = add_number xs ys (next_carry x y c) (omega arith) in
    let here = one_bit x y c in
    let more = mod_more (sum_bit x y c) (number_of xs + number_of ys + number (next_carry x y c)) (length xs) in
    let all : number (sum_bit x y c) + 2 * (number_of xs + number_of ys + number (next_carry x y c)) ≡ number x + 2 * number_of xs + (number y + 2 * number_of ys) + number c = omega arith in
    ap (λ n. number (sum_bit x y c) + 2 * n) h ∙ (sym more ∙ ap (λ n. n % 2 ^ suc (length xs)) all)
  where
    one_bit : (a b k : Bool) → number (sum_bit a b k) + 2 * number (next_carry a b k) ≡ number a + number b + number k
    one_bit true true true = refl
    one_bit true true false = refl
    one_bit true false true = refl
    one_bit true false false = refl
    one_bit false true true = refl
    one_bit false true false = refl
    one_bit false false true = refl
    one_bit false false false = refl

pub add_long : (xs ys : List Bool) (c : Bool) → length ys ≡ length xs → length (add_of xs ys c) ≡ length xs
add_long [] ys c e = refl
add_long (x ∷ xs) [] c e = absurd (omega arith)
add_long (x ∷ xs) (y ∷ ys) c e = ap suc (add_long xs ys (next_carry x y c) (omega arith))
