-- Sums of widths that are known up to a bound alone.
use Rattle.std.specs.Prelude.{ℕ, min, Option, Some, None}

abbrev pub capped : ℕ → ℕ
capped n = min n 129

-- a width that is too large is known as too large
abbrev pub capped_width : Option ℕ → Option ℕ
capped_width None = None
capped_width (Some n) = Some (capped n)
