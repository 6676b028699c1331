-- Blocks of 64 cases, one after another.
use Rattle.std.proofs.Common.{◌≡◌, ◌≢◌, ℕ, zero, suc, ◌+◌, ◌*◌, ◌-◌, ◌%◌, ◌^◌, ◌<◌, ◌≤◌, Bool, true, false, inl, inr, refl, sym, ap, subst, ◌∙◌, arith}
use Rattle.std.specs.Prelude.{nat_eq}
use Rattle.std.specs.Int.{bit_at, trailing_zeros, w64}
use Rattle.std.proofs.lemmas.Nat.{pow-add}
use Rattle.std.proofs.Math.Pow.{pow_mono}
use Rattle.std.proofs.lemmas.Bool.{cases_lt}
use Rattle.std.proofs.lemmas.Nat.Bits.{bit_at-zero, bit_at-trailing_zeros}
use Rattle.lola_lanes.specs.Lanes.{IsWordOf}

pub blocks_hold : (bits : ℕ) → 6 ≤ bits → 2 ^ bits ≤ 64 * 2 ^ (bits - 6)
blocks_hold bits some =
    let e : 6 + (bits - 6) ≡ bits = omega arith in
    let p : 2 ^ bits ≡ 64 * 2 ^ (bits - 6) = ap (λ n. 2 ^ n) (sym e) ∙ pow-add 2 6 (bits - 6) in
    omega arith

pub one_block : (bits : ℕ) → bits < 6 → 2 ^ bits ≤ 64
one_block bits few = pow_mono {i = bits} {j = 6} (omega arith)

-- a power that fits a word
pub fits_word : (n : ℕ) → n ≤ 57 → (1 * 2 ^ n % 18446744073709551616 ≡ 2 ^ n) × (2 ^ n ≤ 2 ^ 57)
fits_word n most = let h : 2 ^ n ≤ 2 ^ 57 = pow_mono {i = n} {j = 57} most in (omega arith, h)

module _ (fails : ℕ → Bool) where
  -- below a case of a block, where no case before fails
  before : (block w n : ℕ) → IsWordOf fails block w → ((c : ℕ) → c < 64 * block → fails c ≡ false) → n ≤ 64 → ((i : ℕ) → i < n → bit_at w i ≡ 0) → (c : ℕ) → c < 64 * block + n → fails c ≡ false
  before block w n is past inside none c below = elim (cases_lt c (64 * block)) [
    | inl p ↦ past c p
    | inr p ↦ (
        let at : 64 * block + (c - 64 * block) ≡ c = omega arith in
        ap fails (sym at) ∙ is.1 (c - 64 * block) (omega arith) ∙ ap (λ d. nat_eq d 1) (none (c - 64 * block) (omega arith)))
  ]

  pub block_good : (block w : ℕ) → IsWordOf fails block w → ((c : ℕ) → c < 64 * block → fails c ≡ false) → w ≡ 0 → (c : ℕ) → c < 64 * (block + 1) → fails c ≡ false
  block_good block w is past none c below = before block w 64 is past (omega arith) (λ i inside. ap (λ x. bit_at x i) none ∙ bit_at-zero i) c (omega arith)

  pub block_bad : (block w t : ℕ) → IsWordOf fails block w → ((c : ℕ) → c < 64 * block → fails c ≡ false) → w ≢ 0 → t ≡ trailing_zeros w64 w →
      (fails (64 * block + t) ≡ true) × ((e : ℕ) → e < 64 * block + t → fails e ≡ false)
  block_bad block w t is past some at =
      let z = bit_at-trailing_zeros w64 w (positive w some) is.0 in
      let inside : t < 64 = subst (λ n. n < 64) (sym at) z.0 in
      let one : bit_at w t ≡ 1 = ap (bit_at w) at ∙ z.1 in
      (is.1 t inside ∙ ap (λ d. nat_eq d 1) one, before block w t is past (omega arith) (λ i p. z.2 i (subst (λ n. i < n) at p)))
    where
      positive : (w : ℕ) → w ≢ 0 → 0 < w
      positive zero e = absurd (e refl)
      positive (suc w) e = omega arith
