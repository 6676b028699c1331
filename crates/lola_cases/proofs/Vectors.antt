-- The bits of a number, and the numbers of vectors.
use Rattle.std.proofs.Common.{◌≡◌, ℕ, zero, suc, ◌+◌, ◌-◌, ◌*◌, ◌/◌, ◌%◌, ◌^◌, ◌<◌, ◌≤◌, Bool, List, [], ◌∷◌, ◌++◌, length, map, take, drop, replicate, refl, sym, ◌∙◌, ap, append_assoc, append-nil, arith}
use Rattle.std.specs.Prelude.{nat_eq}
use Rattle.std.proofs.Math.Nat.{pow-le-pow_right}
use Rattle.std.proofs.lemmas.List.{length-take}
use Rattle.lola_bits.specs.Number.{number}
use Rattle.lola_bits.specs.BitLists.{number_of}
use Rattle.lola_bits.proofs.BitLists.{pow_more, number_below, lowest}
use Rattle.lola_cases.specs.Bits.{HasNumber}

-- the bits of a number in a width
abbrev pub bits_in : ℕ → ℕ → List Bool
bits_in zero n = []
bits_in (suc w) n = nat_eq (n % 2) 1 ∷ bits_in w (n / 2)

bits_long : (w n : ℕ) → length (bits_in w n) ≡ w
bits_long zero n = refl
bits_long (suc w) n = ap suc (bits_long w (n / 2))

bits_number : (w n : ℕ) → n < 2 ^ w → number_of (bits_in w n) ≡ n
bits_number zero n below = omega arith
bits_number (suc w) n below =
    let p = pow_more w in
    let rest = bits_number w (n / 2) (omega arith) in
    ap (λ k. number (nat_eq (n % 2) 1) + 2 * k) rest ∙ lowest n

-- one bit more, and all bits
pub bit_more : (width place rest : ℕ) (bits now all : List Bool) → place < width → now ≡ bits ++ nat_eq (rest % 2) 1 ∷ [] → bits ++ bits_in (width - place) rest ≡ all → now ++ bits_in (width - (place + 1)) (rest / 2) ≡ all
bit_more width place rest bits now all within pushed so =
    let left : width - place ≡ suc (width - (place + 1)) = omega arith in
    ap (λ (l : List Bool). l ++ bits_in (width - (place + 1)) (rest / 2)) pushed ∙ append_assoc bits (nat_eq (rest % 2) 1 ∷ []) (bits_in (width - (place + 1)) (rest / 2))
    ∙ ap (λ (k : ℕ). bits ++ bits_in k rest) (sym left) ∙ so

pub bits_done : (width place rest number : ℕ) (bits : List Bool) → width ≤ place → number < 2 ^ width → bits ++ bits_in (width - place) rest ≡ bits_in width number → HasNumber width number bits
bits_done width place rest number bits end below so =
    let none : width - place ≡ 0 = omega arith in
    let all : bits ≡ bits_in width number = sym (append-nil bits) ∙ ap (λ (k : ℕ). bits ++ bits_in k rest) (sym none) ∙ so in
    record { long = ap length all ∙ bits_long width number; means = ap number_of all ∙ bits_number width number below }

-- vectors so far have the first numbers
pub record HaveFirst (width : ℕ) (numbers : List ℕ) (at : ℕ) (made : List (List Bool)) : Type 0 where
  pub long : map length made ≡ replicate at width
  pub mean : map number_of made ++ drop at numbers ≡ numbers

-- a vector has a number below 2 to any width that it keeps
pub narrow_below : (bits : List Bool) (n : ℕ) → length bits ≤ n → number_of bits < 2 ^ n
narrow_below bits n short = let h = number_below bits in let p : 2 ^ length bits ≤ 2 ^ n = pow-le-pow_right (omega arith) short in omega (arith, h, p)

pub more_below : (bits : List Bool) → length bits ≤ 128 → number_of (take (length bits - 1) (drop 1 bits)) < 2 ^ 127
more_below bits narrow = let e = length-take (length bits - 1) (drop 1 bits) in narrow_below (take (length bits - 1) (drop 1 bits)) 127 (omega (arith, e, narrow))
