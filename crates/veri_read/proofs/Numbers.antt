-- Numbers digit by digit.
use Rattle.std.proofs.Common.{◌≡◌, ℕ, ◌+◌, ◌*◌, ◌-◌, List, [], ◌∷◌, ◌++◌, refl}
use Rattle.veri_read.specs.Bits.{number_behind}

pub digit_behind : (n : ℕ) (ds : List ℕ) (d : ℕ) → number_behind n (ds ++ d ∷ []) ≡ 10 * number_behind n ds + (d - 48)
digit_behind n [] d = refl
digit_behind n (e ∷ ds) d = digit_behind (10 * n + (e - 48)) ds d
