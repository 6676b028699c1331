-- Words of 64 cases: bit n of a word is the value in case n.
use Rattle.std.specs.Prelude.{◌≡◌, ℕ, ◌+◌, ◌*◌, ◌-◌, ◌^◌, ◌<◌, Bool, true, false, cond, nat_lt, nat_eq, [], ◌∷◌, Option, Some, None, bit_and}
use Rattle.std.specs.Int.{bit_at}
use Rattle.lola_bits.specs.BitLists.{number_of}
use Rattle.lola_alg.specs.Algebra.{Calls, Meaning}

-- whether the bit at a place of a number is 1
abbrev pub digit : ℕ → ℕ → Bool
digit place n = nat_eq (bit_at n place) 1

-- the value in a case
abbrev pub lane : ℕ → ℕ → Bool
lane n w = digit n w

-- the case that an assignment stands for: its first six values are the bits of the case's number, the lowest first
abbrev pub case_of : (ℕ → Bool) → ℕ
case_of v = number_of (v 0 ∷ v 1 ∷ v 2 ∷ v 3 ∷ v 4 ∷ v 5 ∷ [])

-- the assignment that gives each place its bit of a number
abbrev pub assigned : ℕ → ℕ → Bool
assigned n place = digit place n

-- what the calls answer: all cases or none, the other cases, and those that are in both
abbrev pub lane_calls : Calls (Unit {0}) ℕ
lane_calls = record { constant = λ d b. (d, cond b 18446744073709551615 0); negated = λ d a. (d, 18446744073709551615 - a); both = λ d a b. Some (d, bit_and a b) }

-- what a bit means: each number below 2 to 64 is known, and its value is that in the case of the assignment
abbrev pub lane_meaning : Meaning (Unit {0}) ℕ
lane_meaning = record { knows = λ d w. nat_lt w (2 ^ 64); value = λ d v w. lane (case_of v) w }

-- a word says in which cases of a block something is so
abbrev pub IsWordOf : (ℕ → Bool) → ℕ → ℕ → Type 0
IsWordOf so block w = (w < 2 ^ 64) × ((n : ℕ) → n < 64 → so (64 * block + n) ≡ lane n w)

-- the least of so many cases in which something fails, or there is none
abbrev pub IsFirst : (ℕ → Bool) → ℕ → Option ℕ → Type 0
IsFirst fails count None = (c : ℕ) → c < count → fails c ≡ false
IsFirst fails count (Some c) = (c < count) × (fails c ≡ true) × ((e : ℕ) → e < c → fails e ≡ false)
