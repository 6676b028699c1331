-- Lists of bits, the lowest first.
use Rattle.std.specs.Prelude.{ℕ, ◌+◌, ◌*◌, Bool, List, [], ◌∷◌}
use Rattle.lola_bits.specs.Number.{number}

-- the number of bits, the lowest first
abbrev pub number_of : List Bool → ℕ
number_of [] = 0
number_of (b ∷ bs) = number b + 2 * number_of bs
