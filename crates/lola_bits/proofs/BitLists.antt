-- The numbers of lists of bits: one behind another, their fronts and backs, and bit by bit.
use Rattle.std.proofs.Common.{◌≡◌, ℕ, zero, suc, ◌+◌, ◌-◌, ◌*◌, ◌/◌, ◌%◌, ◌^◌, ◌<◌, Bool, true, false, List, [], ◌∷◌, ◌++◌, length, take, drop, replicate, refl, sym, ap, ap₂, ◌∙◌, arith, shr-shr, mul_assoc, div-one, pow-suc}
use Rattle.std.specs.Prelude.{nat_eq}
use Rattle.std.proofs.lemmas.Nat.{mod-pow-add, pow_pos}
use Rattle.std.proofs.Math.Nat.{mod-one, zero-mod, zero-div}
use Rattle.lola_bits.specs.Number.{number, bit_at}
use Rattle.lola_bits.specs.BitLists.{number_of}

pub number_lt : (b : Bool) → number b < 2
number_lt true = omega arith
number_lt false = omega arith

pub pow_more : (n : ℕ) → 2 ^ suc n ≡ 2 * 2 ^ n
pow_more n = let p = pow-suc 2 n in omega arith

pub number_below : (xs : List Bool) → number_of xs < 2 ^ length xs
number_below [] = omega arith
number_below (x ∷ xs) = let h = number_below xs in let b = number_lt x in let p = pow_more (length xs) in omega arith

-- the lowest bit stays below a power of 2
pub mod_more : (b : Bool) (k n : ℕ) → (number b + 2 * k) % 2 ^ suc n ≡ number b + 2 * (k % 2 ^ n)
mod_more b k n =
    let split = mod-pow-add (number b + 2 * k) n 1 in
    let low = number_lt b in
    let half : (number b + 2 * k) / 2 ^ 1 ≡ k = omega arith in
    let rest : (number b + 2 * k) % 2 ^ 1 ≡ number b = omega arith in
    let more : n + 1 ≡ suc n = omega arith in
    ap (λ j. (number b + 2 * k) % 2 ^ j) (sym more) ∙ (split ∙ (ap₂ (λ h r. (h % 2 ^ n) * 2 ^ 1 + r) half rest ∙ omega arith))

-- and goes where a number is divided by one
pub half_more : (b : Bool) (y k : ℕ) → (number b + 2 * y) / 2 ^ suc k ≡ y / 2 ^ k
half_more b y k =
    let low = number_lt b in
    let half : (number b + 2 * y) / 2 ^ 1 ≡ y = omega arith in
    let e : 1 + k ≡ suc k = omega arith in
    ap (λ j. (number b + 2 * y) / 2 ^ j) (sym e) ∙ (sym (shr-shr (number b + 2 * y) 1 k) ∙ ap (λ z. z / 2 ^ k) half)

pub number_append : (xs ys : List Bool) → number_of (xs ++ ys) ≡ number_of xs + 2 ^ length xs * number_of ys
number_append [] ys = omega arith
number_append (x ∷ xs) ys =
    let h = number_append xs ys in
    let p = ap (λ k. k * number_of ys) (pow_more (length xs)) ∙ mul_assoc 2 (2 ^ length xs) (number_of ys) in
    omega arith

-- of copies of one bit
pub number_same : (k : ℕ) (t : Bool) → number_of (replicate k t) ≡ number t * (2 ^ k - 1)
number_same zero true = omega arith
number_same zero false = omega arith
number_same (suc k) true = let h = number_same k true in let p = pow_more k in let q = pow_pos k in omega arith
number_same (suc k) false = let h = number_same k false in omega arith

pub number_take : (k : ℕ) (xs : List Bool) → number_of (take k xs) ≡ number_of xs % 2 ^ k
number_take zero xs = sym (mod-one (number_of xs))
number_take (suc k) [] = sym (zero-mod (2 ^ suc k))
number_take (suc k) (x ∷ xs) = ap (λ y. number x + 2 * y) (number_take k xs) ∙ sym (mod_more x (number_of xs) k)

pub number_drop : (k : ℕ) (xs : List Bool) → number_of (drop k xs) ≡ number_of xs / 2 ^ k
number_drop zero xs = sym (div-one (number_of xs))
number_drop (suc k) [] = sym (zero-div (2 ^ suc k))
number_drop (suc k) (x ∷ xs) = number_drop k xs ∙ sym (half_more x (number_of xs) k)

-- lists of one length with one number are one list
pub same_from_number : (xs ys : List Bool) → length ys ≡ length xs → number_of xs ≡ number_of ys → xs ≡ ys
same_from_number [] [] l e = refl
same_from_number [] (y ∷ ys) l e = absurd (omega arith)
same_from_number (x ∷ xs) [] l e = absurd (omega arith)
same_from_number (true ∷ xs) (true ∷ ys) l e = ap (λ zs. true ∷ zs) (same_from_number xs ys (omega arith) (omega arith))
same_from_number (false ∷ xs) (false ∷ ys) l e = ap (λ zs. false ∷ zs) (same_from_number xs ys (omega arith) (omega arith))
same_from_number (true ∷ xs) (false ∷ ys) l e = absurd (omega arith)
same_from_number (false ∷ xs) (true ∷ ys) l e = absurd (omega arith)

-- a number below 2 is that of its test, and so is each bit
pub number_is : (n : ℕ) → n < 2 → number (nat_eq n 1) ≡ n
number_is zero below = refl
number_is (suc zero) below = refl
number_is (suc (suc n)) below = absurd (omega arith)

pub bit_below : (x n : ℕ) → bit_at x n < 2
bit_below x n = omega arith

pub bit_is : (x n : ℕ) → number (nat_eq (bit_at x n) 1) ≡ bit_at x n
bit_is x n = number_is (bit_at x n) (bit_below x n)

-- the lowest bit and the rest of a number
pub lowest : (n : ℕ) → number (nat_eq (n % 2) 1) + 2 * (n / 2) ≡ n
lowest n = let e = number_is (n % 2) (omega arith) in omega arith
