-- The bits of a case: vectors, the lowest bit first, that have the numbers of the case.
use Rattle.std.specs.Prelude.{◌≡◌, ◌≤◌, ℕ, Bool, List, map, length, replicate}
use Rattle.lola_bits.specs.BitLists.{number_of}
use Rattle.lola_flat.specs.declared.design.SigKind.{SigKind}
use Rattle.lola_flat.specs.declared.design.SigKind.TheVariants.{Input, Pad, Wire, Register}
use Rattle.lola_flat.specs.Tree.{FlatTree}
use Rattle.lola_flat.specs.Value.{env}
use Rattle.lola_eval.specs.Means.{AreGivenBits}
use Rattle.lola_cases.specs.declared.tables.CaseBits.{CaseBits}
use Rattle.lola_cases.specs.Cases.{given_of, outside_of}

-- a vector of a width has a number
pub record HasNumber (width number : ℕ) (bits : List Bool) : Type 0 where
  pub long : length bits ≡ width
  pub means : number_of bits ≡ number

-- a vector is at most as wide as any signal
abbrev pub IsNarrow : List Bool → Type 0
IsNarrow bits = length bits ≤ 128

-- vectors of one width have these numbers
pub record HaveNumbers (width : ℕ) (numbers : List ℕ) (vectors : List (List Bool)) : Type 0 where
  pub long : map length vectors ≡ replicate (length numbers) width
  pub mean : map number_of vectors ≡ numbers

-- from outside a pad has a vector, and other signals have none
abbrev pub outside_width : SigKind → ℕ → ℕ
outside_width Pad width = width
outside_width Input width = 0
outside_width Register width = 0
outside_width Wire width = 0

-- the numbers of the vectors in a table
abbrev pub table_numbers : List (List (List Bool)) → List (List ℕ)
table_numbers table = map (map number_of) table

-- tables of bits are those of a case: they suit the design, and have the numbers that the case gives
pub record AreBitsOf (F : FlatTree) (numbers : List ℕ) (t : CaseBits) : Type 0 where
  pub suit : AreGivenBits F (env t.given.items t.outside.items)
  pub given : table_numbers t.given.items ≡ given_of F numbers
  pub outside : map number_of t.outside.items ≡ outside_of F numbers
