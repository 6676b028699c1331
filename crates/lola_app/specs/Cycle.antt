-- The vectors of a cycle as lists of bits, the lowest first.
use Rattle.std.specs.Prelude.{◌≡◌, ℕ, Bool, List, map, length}
use Rattle.lola_bits.specs.BitLists.{number_of}
use Rattle.lola_app.specs.declared.subject.Subject.{Subject}

-- they have these widths and numbers
pub record AreVectors (widths numbers : List ℕ) (vectors : List (List Bool)) : Type 0 where
  pub long : map length vectors ≡ widths
  pub mean : map number_of vectors ≡ numbers

-- they are those of a subject's design
abbrev pub AreVectorsOf : Subject → List ℕ → List (List Bool) → Type 0
AreVectorsOf subject numbers vectors = AreVectors subject.widths.items numbers vectors
