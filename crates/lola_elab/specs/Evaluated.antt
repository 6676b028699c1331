-- What the evaluation of an expression over vectors of bits makes.
use Rattle.std.specs.Prelude.{◌≡◌, ℕ, Bool, List, map, length, Some}
use Rattle.lola_bits.specs.BitLists.{number_of}
use Rattle.lola_elab.specs.declared.flat.Flat.{Flat}
use Rattle.lola_elab.specs.Flat.{flat_width, flat_number}

-- so many bits, the lowest first, of this number
pub record IsNumber (bits : List Bool) (width number : ℕ) : Type 0 where
  pub long : length bits ≡ width
  pub means : number_of bits ≡ number

-- they are those of an expression over vectors of bits
pub record IsEvaluated (flat : Flat) (leaves : List (List Bool)) (bits : List Bool) : Type 0 where
  pub long : flat_width (map length leaves) flat ≡ Some (length bits)
  pub means : number_of bits ≡ flat_number (map length leaves) flat (map number_of leaves)
