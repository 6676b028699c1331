-- Bits of words past their top, and patterns.
use Rattle.std.proofs.Common.{◌≡◌, ℕ, ◌^◌, ◌/◌, ◌<◌, ◌≤◌, refl, arith}
use Rattle.std.proofs.Math.Nat.{div-eq_of_lt, pow-le-pow_right}
use Rattle.lola_bits.specs.Number.{bit_at}

pub no_bit : (x n : ℕ) → x < 2 ^ 128 → 128 ≤ n → 0 ≡ bit_at x n
no_bit x n small past =
    let large : 2 ^ 128 ≤ 2 ^ n = pow-le-pow_right (omega arith) past in
    let none : x / 2 ^ n ≡ 0 = div-eq_of_lt (omega arith) in
    rw none refl
