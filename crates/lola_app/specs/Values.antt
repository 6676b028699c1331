-- The numbers of a valuation, each a line of its name and hexadecimal digits.
use Rattle.std.specs.Prelude.{ℕ, zero, suc, ◌+◌, ◌/◌, ◌%◌, ◌^◌, nat_lt, if◌then◌else◌, List, [], ◌∷◌, ◌++◌, codes, string_bytes}
use Rattle.lola_app.specs.declared.values.NamedNumber.{NamedNumber}

-- a number of a valuation under its printed name, with its width in bits
pub record Line : Type 0 where
  pub name : List ℕ
  pub width : ℕ
  pub value : ℕ

-- names with their widths and numbers
abbrev pub lines_of : List (List ℕ) → List ℕ → List ℕ → List Line
lines_of [] widths values = []
lines_of (name ∷ names) [] values = []
lines_of (name ∷ names) (width ∷ widths) [] = []
lines_of (name ∷ names) (width ∷ widths) (value ∷ values) = record { name = name; width = width; value = value } ∷ lines_of names widths values

abbrev pub line_of : NamedNumber → Line
line_of named = record { name = string_bytes named.name; width = named.width; value = named.value }

-- a hexadecimal digit, `0` to `9`, bytes 48 to 57, or `A` to `F`, bytes 65 to 70
abbrev pub hex_digit : ℕ → ℕ
hex_digit n = if nat_lt n 10 then 48 + n else 55 + n

-- so many digits of a number, the highest first
abbrev pub hex_digits : ℕ → ℕ → List ℕ
hex_digits zero n = []
hex_digits (suc k) n = hex_digit (n / 16 ^ k % 16) ∷ hex_digits k n

-- a number in a digit for every 4 bits of its width, as `NAME=0AA`
abbrev pub value_line : Line → List ℕ
value_line line = line.name ++ (codes "=" ++ (hex_digits ((line.width + 3) / 4) line.value ++ codes "\n"))

abbrev pub value_lines : List Line → List ℕ
value_lines [] = []
value_lines (line ∷ lines) = value_line line ++ value_lines lines
