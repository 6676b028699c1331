-- Where each bit of a case comes from: it is the bit at a place of the case's number, or the same in all cases.
use Rattle.std.specs.Prelude.{ℕ, zero, suc, ◌+◌, ◌/◌, ◌%◌, ◌<◌, Bool, cond, nat_eq, List, [], ◌∷◌, map, length, Option, Some, None}
use Rattle.std.specs.List.{AllByRecursion}
use Rattle.lola_bits.specs.BitLists.{number_of}
use Rattle.lola_flat.specs.Value.{Env, mapped, sum_of}
use Rattle.lola_lanes.specs.Lanes.{digit}
use Rattle.lola_asked.specs.declared.bits.CaseBit.{CaseBit}
use Rattle.lola_asked.specs.declared.bits.CaseBit.TheVariants.{Place, Fixed}
use Rattle.lola_asked.specs.Setting.{open_widths}

-- a bit in a case
abbrev pub bit_in : ℕ → CaseBit → Bool
bit_in c (Place place) = digit place c
bit_in c (Fixed value) = value

-- the number of bits in a case
abbrev pub number_in_case : ℕ → List CaseBit → ℕ
number_in_case c bits = number_of (map (bit_in c) bits)

-- a place is one of a number of 64 bits
abbrev pub IsSmall : CaseBit → Type 0
IsSmall (Place place) = place < 64
IsSmall (Fixed value) = Unit {0}

-- the bits of so many places from one on, and those of a number, the lowest first
abbrev pub place_bits : ℕ → ℕ → List CaseBit
place_bits zero place = []
place_bits (suc width) place = Place place ∷ place_bits width (place + 1)

abbrev pub fixed_bits : ℕ → ℕ → List CaseBit
fixed_bits zero n = []
fixed_bits (suc width) n = Fixed (nat_eq (n % 2) 1) ∷ fixed_bits width (n / 2)

-- the vector of an element, where so many places are left below it
abbrev pub vector_of : Option ℕ → ℕ → ℕ → List CaseBit
vector_of None width left = place_bits width left
vector_of (Some n) width left = fixed_bits width n

-- the vectors of all elements: what isn't given has the places above those of what is free behind it
abbrev pub vectors_of : List (Option ℕ) → List ℕ → List (List CaseBit)
vectors_of [] ws = []
vectors_of (g ∷ given) [] = []
vectors_of (g ∷ given) (w ∷ ws) = vector_of g w (sum_of (open_widths given ws)) ∷ vectors_of given ws
