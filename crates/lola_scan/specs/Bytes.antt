-- The kinds of bytes that tokens are made of, and the numbers that digits spell.
use Rattle.std.specs.Prelude.{ℕ, ◌+◌, ◌-◌, ◌*◌, Bool, true, false, cond, List, [], ◌∷◌, nat_eq, nat_le}

-- a byte from one to another
abbrev pub is_between : ℕ → ℕ → ℕ → Bool
is_between low high b = cond (nat_le low b) (nat_le b high) false

-- space, tab, line feed, carriage return
abbrev pub is_blank : ℕ → Bool
is_blank b = cond (nat_eq b 32) true (cond (nat_eq b 9) true (cond (nat_eq b 10) true (nat_eq b 13)))

-- A to Z and a to z
abbrev pub is_letter : ℕ → Bool
is_letter b = cond (is_between 65 90 b) true (is_between 97 122 b)

-- 0 to 9
abbrev pub is_digit : ℕ → Bool
is_digit b = is_between 48 57 b

-- a letter or a digit
abbrev pub is_word_byte : ℕ → Bool
is_word_byte b = cond (is_letter b) true (is_digit b)

-- 0 to 9 and A to F
abbrev pub is_hex_digit : ℕ → Bool
is_hex_digit b = cond (is_digit b) true (is_between 65 70 b)

-- 0, 1, - and space
abbrev pub is_pattern_byte : ℕ → Bool
is_pattern_byte b = cond (nat_eq b 48) true (cond (nat_eq b 49) true (cond (nat_eq b 45) true (nat_eq b 32)))

-- the value of a hexadecimal digit
abbrev pub digit_value : ℕ → ℕ
digit_value b = cond (is_digit b) (b - 48) (b - 55)

-- the number that digits spell to a base, behind a number that is read already
abbrev pub number_behind : ℕ → ℕ → List ℕ → ℕ
number_behind base before [] = before
number_behind base before (d ∷ ds) = number_behind base (base * before + digit_value d) ds

-- the number that digits spell to a base
abbrev pub number_of : ℕ → List ℕ → ℕ
number_of base digits = number_behind base 0 digits
