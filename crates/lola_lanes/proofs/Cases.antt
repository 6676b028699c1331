-- The word of a place has in each case of a block the bit at that place of the case's number.
use Rattle.std.proofs.Common.{◌≡◌, ◌⊎◌, ℕ, zero, suc, ◌+◌, ◌*◌, ◌/◌, ◌%◌, ◌^◌, ◌<◌, ◌≤◌, Bool, true, false, ◌&&◌, refl, sym, ap, ◌∙◌, arith, inl, inr}
use Rattle.std.specs.Prelude.{nat_eq}
use Rattle.std.specs.Int.{bit_at}
use Rattle.std.proofs.lemmas.Nat.{pow-add}
use Rattle.std.proofs.Math.Nat.{div-div-eq-div-mul}
use Rattle.lola_bits.specs.Number.{number}
use Rattle.lola_bits.proofs.BitLists.{bit_is}
use Rattle.lola_lanes.specs.Lanes.{case_of, lane, digit, assigned, IsWordOf}
use Rattle.lola_lanes.specs.Law.{lane_constant, constant_below}
use Rattle.lola_lanes.specs.Words.{word_of}

-- a test holds of each number below a bound
abbrev all_below : (ℕ → Bool) → ℕ → Bool
all_below f zero = true
all_below f (suc n) = f n && all_below f n

both_left : (a b : Bool) → (a && b) ≡ true → a ≡ true
both_left true b e = refl
both_left false b e = absurd (let f : false ≡ true = e in cc)

both_right : (a b : Bool) → (a && b) ≡ true → b ≡ true
both_right true b e = e
both_right false b e = absurd (let f : false ≡ true = e in cc)

abbrev same : Bool → Bool → Bool
same true b = b
same false true = false
same false false = true

same_is : (a b : Bool) → same a b ≡ true → a ≡ b
same_is true b e = sym e
same_is false true e = absurd (let f : false ≡ true = e in cc)
same_is false false e = refl

reached : (k n : ℕ) → k ≤ n → (k ≡ n) ⊎ (k < n)
reached zero zero e = inl refl
reached zero (suc n) e = inr (omega arith)
reached (suc k) zero e = absurd (omega arith)
reached (suc k) (suc n) e = elim (reached k n (omega arith)) [ inl p ↦ inl (ap suc p) | inr p ↦ inr (omega arith) ]

at_each : (f : ℕ → Bool) (n k : ℕ) → all_below f n ≡ true → k < n → f k ≡ true
at_each f zero k all inside = absurd (omega arith)
at_each f (suc n) k all inside = elim (reached k n (omega arith)) [
  | inl p ↦ ap f p ∙ both_left (f n) (all_below f n) all
  | inr p ↦ at_each f n k (both_right (f n) (all_below f n) all) p
]

-- a fixed word is tried in each of its cases
fixed : (w place n : ℕ) → all_below (λ k. same (lane k w) (digit place k)) 64 ≡ true → n < 64 → lane n w ≡ digit place n
fixed w place n all inside = same_is (lane n w) (digit place n) (at_each (λ k. same (lane k w) (digit place k)) 64 n all inside)

-- a place from the sixth on is one of the block's number
high : (block n place : ℕ) → n < 64 → bit_at (64 * block + n) (suc (suc (suc (suc (suc (suc place)))))) ≡ bit_at block place
high block n place inside =
    let p : 2 ^ suc (suc (suc (suc (suc (suc place))))) ≡ 64 * 2 ^ place = ap (λ k. 2 ^ k) (let e : suc (suc (suc (suc (suc (suc place))))) ≡ 6 + place = omega arith in e) ∙ pow-add 2 6 place in
    let q : (64 * block + n) / 64 ≡ block = omega arith in
    ap (λ k. (64 * block + n) / k % 2) p ∙ ap (λ k. k % 2) (sym (div-div-eq-div-mul (64 * block + n) 64 (2 ^ place))) ∙ ap (λ k. k / 2 ^ place % 2) q

word_lane : (place block n : ℕ) → n < 64 → lane n (word_of place block) ≡ digit place (64 * block + n)
word_lane zero block n inside = fixed (word_of 0 block) 0 n refl inside ∙ ap (λ d. nat_eq d 1) (let h : n / 1 % 2 ≡ (64 * block + n) / 1 % 2 = omega arith in h)
word_lane (suc zero) block n inside = fixed (word_of 1 block) 1 n refl inside ∙ ap (λ d. nat_eq d 1) (let h : n / 2 % 2 ≡ (64 * block + n) / 2 % 2 = omega arith in h)
word_lane (suc (suc zero)) block n inside = fixed (word_of 2 block) 2 n refl inside ∙ ap (λ d. nat_eq d 1) (let h : n / 4 % 2 ≡ (64 * block + n) / 4 % 2 = omega arith in h)
word_lane (suc (suc (suc zero))) block n inside = fixed (word_of 3 block) 3 n refl inside ∙ ap (λ d. nat_eq d 1) (let h : n / 8 % 2 ≡ (64 * block + n) / 8 % 2 = omega arith in h)
word_lane (suc (suc (suc (suc zero)))) block n inside = fixed (word_of 4 block) 4 n refl inside ∙ ap (λ d. nat_eq d 1) (let h : n / 16 % 2 ≡ (64 * block + n) / 16 % 2 = omega arith in h)
word_lane (suc (suc (suc (suc (suc zero))))) block n inside = fixed (word_of 5 block) 5 n refl inside ∙ ap (λ d. nat_eq d 1) (let h : n / 32 % 2 ≡ (64 * block + n) / 32 % 2 = omega arith in h)
word_lane (suc (suc (suc (suc (suc (suc place)))))) block n inside = lane_constant (digit place block) n inside ∙ ap (λ d. nat_eq d 1) (sym (high block n place inside))

word_below : (place block : ℕ) → word_of place block < 2 ^ 64
word_below zero block = omega arith
word_below (suc zero) block = omega arith
word_below (suc (suc zero)) block = omega arith
word_below (suc (suc (suc zero))) block = omega arith
word_below (suc (suc (suc (suc zero)))) block = omega arith
word_below (suc (suc (suc (suc (suc zero))))) block = omega arith
word_below (suc (suc (suc (suc (suc (suc place)))))) block = constant_below (digit place block)

pub word_is : (place block : ℕ) → IsWordOf (digit place) block (word_of place block)
word_is place block = (word_below place block, λ n inside. sym (word_lane place block n inside))

-- an assignment for each case
pub case_assigned : (n : ℕ) → n < 64 → case_of (assigned n) ≡ n
case_assigned n inside =
    let a : number (digit 0 n) ≡ n / 1 % 2 = bit_is n 0 in
    let b : number (digit 1 n) ≡ n / 2 % 2 = bit_is n 1 in
    let c : number (digit 2 n) ≡ n / 4 % 2 = bit_is n 2 in
    let d : number (digit 3 n) ≡ n / 8 % 2 = bit_is n 3 in
    let e : number (digit 4 n) ≡ n / 16 % 2 = bit_is n 4 in
    let f : number (digit 5 n) ≡ n / 32 % 2 = bit_is n 5 in
    omega arith
