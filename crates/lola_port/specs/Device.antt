-- The meaning of a device: a list of numbers, the first of which is its kind. What a call answers
-- and the list after it follow from the list and the arguments alone.
--     0 a memory    then its words
--     1 a log       then its room, its count of stores and the words that it keeps
--     2 a tape      then the words that are left
--     3 a counter   then its one number
use Rattle.std.specs.Prelude.{ℕ, zero, suc, ◌+◌, ◌-◌, ◌*◌, ◌/◌, ◌%◌, ◌^◌, min, List, [], ◌∷◌, ◌++◌, take, Bool, if◌then◌else◌, slice_index, slice_set}

-- a list has the shape of one of the four kinds
abbrev pub IsDevice : List ℕ → Type 0
IsDevice (zero ∷ words) = Unit {0}
IsDevice (suc zero ∷ room ∷ count ∷ words) = Unit {0}
IsDevice (suc (suc zero) ∷ words) = Unit {0}
IsDevice (suc (suc (suc zero)) ∷ number ∷ []) = Unit {0}
IsDevice _ = ⊥

-- what a look answers: a memory the word that holds the address, a tape its first word, a counter
-- its number, and 0 where there is none
abbrev pub device_look : List ℕ → ℕ → ℕ
device_look (zero ∷ words) adr = slice_index words (adr / 4)
device_look (suc (suc zero) ∷ words) adr = slice_index words 0
device_look (suc (suc (suc zero)) ∷ number ∷ rest) adr = number
device_look _ adr = 0

-- what a load answers: what a look would have answered
abbrev pub device_load : List ℕ → ℕ → ℕ
device_load list adr = device_look list adr

-- a load takes the first word off a tape, and raises a counter by one up to the greatest u32
abbrev pub after_load : List ℕ → List ℕ
after_load (suc (suc zero) ∷ word ∷ words) = 2 ∷ words
after_load (suc (suc (suc zero)) ∷ number ∷ rest) = 3 ∷ min (number + 1) (2 ^ 32 - 1) ∷ rest
after_load list = list

-- byte lane 0 to 3 of a word, lane 0 being its lowest eight bits
abbrev pub lane_of : ℕ → ℕ → ℕ
lane_of word lane = word / 2 ^ (8 * lane) % 2 ^ 8

-- a word with one byte lane set: the bits above the lane, the new lane and the bits below it
abbrev pub with_lane : ℕ → ℕ → ℕ → ℕ
with_lane word lane byte = word / 2 ^ (8 * (lane + 1)) * 2 ^ (8 * (lane + 1)) + byte * 2 ^ (8 * lane) + word % 2 ^ (8 * lane)

-- what stands in a memory in the place of an old word after a store: the new word, or the old one
-- with the byte lane of the address set to the same lane of the new
abbrev pub stored_word : ℕ → ℕ → ℕ → Bool → ℕ
stored_word old adr word byte = if byte then with_lane old (adr % 4) (lane_of word (adr % 4)) else word

-- a store sets the word of a memory that holds the address, if there is one; a log counts it up to
-- the greatest u32, and keeps the word while it has room
abbrev pub after_store : List ℕ → ℕ → ℕ → Bool → List ℕ
after_store (zero ∷ words) adr word byte = 0 ∷ slice_set words (adr / 4) (stored_word (slice_index words (adr / 4)) adr word byte)
after_store (suc zero ∷ room ∷ count ∷ words) adr word byte = 1 ∷ room ∷ min (count + 1) (2 ^ 32 - 1) ∷ take room (words ++ word ∷ [])
after_store list adr word byte = list
