-- Items behind blanks.
use Rattle.std.specs.Prelude.{ℕ, List, ◌∷◌}

abbrev pub blank_before : List ℕ → List ℕ
blank_before item = 32 ∷ item
