-- Names of bits: a stem, `_`, and a number in decimal without leading zeros.
use Rattle.std.specs.Prelude.{ℕ, suc, ◌+◌, ◌-◌, ◌*◌, Bool, true, false, cond, not, ◌&&◌, nat_eq, nat_lt, List, [], ◌∷◌, length, take, drop, bytes_eq, codes}
use Rattle.std.specs.List.{list_all}
use Rattle.veri_read.specs.Tokens.{is_digit}

-- how many digits stand at the end of a name, behind so many that stand before it
abbrev pub digits_behind : ℕ → List ℕ → ℕ
digits_behind n [] = n
digits_behind n (b ∷ bs) = digits_behind (cond (is_digit b) (suc n) 0) bs

abbrev pub digit_count : List ℕ → ℕ
digit_count name = digits_behind 0 name

-- the digits at the end of a name, and what stands before them: the stem with its `_`
abbrev pub digits_of : List ℕ → List ℕ
digits_of name = drop (length name - digit_count name) name

abbrev pub front_of : List ℕ → List ℕ
front_of name = take (length name - digit_count name) name

abbrev pub ends_with_mark : List ℕ → Bool
ends_with_mark front = bytes_eq (drop (length front - 1) front) (codes "_")

-- digits of a number without leading zeros
abbrev pub has_no_zeros : List ℕ → Bool
has_no_zeros [] = false
has_no_zeros (d ∷ []) = true
has_no_zeros (d ∷ e ∷ ds) = not (nat_eq d 48)

abbrev pub is_decimal : List ℕ → Bool
is_decimal digits = list_all is_digit digits && has_no_zeros digits

-- a stem of at least one byte, `_`, and a number
abbrev pub is_bit_name : List ℕ → Bool
is_bit_name name = is_decimal (digits_of name) && (nat_lt 1 (length (front_of name)) && ends_with_mark (front_of name))

-- the number that digits spell, behind a number that is read already
abbrev pub number_behind : ℕ → List ℕ → ℕ
number_behind n [] = n
number_behind n (d ∷ ds) = number_behind (10 * n + (d - 48)) ds

abbrev pub number_of : List ℕ → ℕ
number_of digits = number_behind 0 digits

-- the first of two numbers is one above the second
abbrev pub is_one_above : List ℕ → List ℕ → Bool
is_one_above above below = is_decimal above && (is_decimal below && nat_eq (number_of above) (suc (number_of below)))

-- two names are of one stem, and the number of the first is one above that of the second
abbrev pub follows : List ℕ → List ℕ → Bool
follows above below = bytes_eq (front_of above) (front_of below) && is_one_above (digits_of above) (digits_of below)

-- the number is 0
abbrev pub ends_run : List ℕ → Bool
ends_run name = bytes_eq (digits_of name) (codes "0")
