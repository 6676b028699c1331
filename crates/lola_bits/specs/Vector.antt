-- Bit vectors.
use Rattle.std.specs.Prelude.{ℕ, ◌<◌, ◌≤◌, ◌^◌}

-- a vector of a width: the width is 1 to 128, and the number is below 2 to it
pub record FitsWidth (width value : ℕ) : Type 0 where
  pub positive : 1 ≤ width
  pub at_most : width ≤ 128
  pub below : value < 2 ^ width
