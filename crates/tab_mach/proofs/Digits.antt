-- Numbers from digits, as far as they go.
use Rattle.std.proofs.Common.{◌≡◌, ℕ, ◌+◌, ◌-◌, ◌*◌, ◌≤◌, ◌<◌, min, zero, suc, drop, get_or, length, List, [], ◌∷◌, ap, sym, ◌∙◌, inl, inr, arith}
use Rattle.std.proofs.lemmas.Bool.{cases_lt}
use Rattle.tab_tree.specs.Names.{digits_number}

at_least : (cs : List ℕ) (n : ℕ) → n ≤ digits_number cs n
at_least [] n = omega arith
at_least (c ∷ cs) n = let h = at_least cs (10 * n + (c - 48)) in omega arith

-- a number that was cut at a limit is cut alike behind more digits
pub capped : (cs : List ℕ) (n limit : ℕ) → min (digits_number cs (min n limit)) limit ≡ min (digits_number cs n) limit
capped cs n limit = elim (cases_lt limit n) [
  | inl large ↦
      let e : min n limit ≡ limit = omega arith in
      let p = at_least cs limit in
      let q = at_least cs n in
      let x : min (digits_number cs limit) limit ≡ limit = omega arith in
      let y : min (digits_number cs n) limit ≡ limit = omega arith in
      ap (λ k. min (digits_number cs k) limit) e ∙ x ∙ sym y
  | inr small ↦ ap (λ k. min (digits_number cs k) limit) (let e : min n limit ≡ n = omega arith in e)
]

-- one digit more
pub digit_step : (cs : List ℕ) (i n limit : ℕ) → i < length cs →
    min (digits_number (drop (suc i) cs) (min (10 * n + (get_or cs i 0 - 48)) limit)) limit ≡ min (digits_number (drop i cs) n) limit
digit_step [] i n limit within = absurd (omega arith)
digit_step (c ∷ cs) zero n limit within = capped cs (10 * n + (c - 48)) limit
digit_step (c ∷ cs) (suc i) n limit within = digit_step cs i n limit (omega arith)
