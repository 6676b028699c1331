-- Numbers of given widths, and the one number that their bits spell.
use Rattle.std.proofs.Common.{◌≡◌, ◌⊎◌, ℕ, suc, ◌+◌, ◌*◌, ◌/◌, ◌%◌, ◌<◌, ◌≤◌, ◌^◌, Bool, false, List, [], ◌∷◌, refl, sym, ap, ap₂, ◌∙◌, subst, inl, inr, arith}
use Rattle.std.proofs.lemmas.Nat.{pow_below, pow_pos, shr_high, mod_low, shr_below, mod_below, mul-le, div-add-mod'}
use Rattle.std.proofs.lemmas.Bool.{cases_lt}
use Rattle.std.proofs.Math.Nat.{suc-mul}
use Rattle.std.specs.Bool.{Decides}
use Rattle.lola_bits.proofs.Numbers.{joined_below}
use Rattle.lola_bits.proofs.Tests.{not_both}
use Rattle.lola_flat.specs.Value.{sum_of, joined_all}
use Rattle.lola_cases.specs.Cases.{AreWithin}
use Rattle.lola_cases.specs.Counting.{numbers_of, ComesBefore, IsCounted, IsMet}
use Rattle.lola_cases.specs.Trial.{HoldsAlways, IsLeastFailing}

-- the code's shift of 1
pub shl_one : (k : ℕ) → k ≤ 31 → 1 * 2 ^ k % 4294967296 ≡ 2 ^ k
shl_one k small = let p : 2 ^ k < 2 ^ 32 = pow_below k 32 (omega arith) in omega arith

pub spelled_below : (ws ns : List ℕ) → AreWithin ws ns → joined_all ws ns < 2 ^ sum_of ws
spelled_below [] [] within = omega arith
spelled_below [] (n ∷ ns) within = absurd within
spelled_below (w ∷ ws) [] within = absurd within
spelled_below (w ∷ ws) (n ∷ ns) within = joined_below n w (joined_all ws ns) (sum_of ws) within.0 (spelled_below ws ns within.1)

pub numbers_spelled : (ws ns : List ℕ) → AreWithin ws ns → numbers_of ws (joined_all ws ns) ≡ ns
numbers_spelled [] [] within = refl
numbers_spelled [] (n ∷ ns) within = absurd within
numbers_spelled (w ∷ ws) [] within = absurd within
numbers_spelled (w ∷ ws) (n ∷ ns) within =
    let low = spelled_below ws ns within.1 in
    ap₂ (λ (x : ℕ) (xs : List ℕ). x ∷ xs) (shr_high n (sum_of ws) (joined_all ws ns) low)
    (ap (numbers_of ws) (mod_low n (sum_of ws) (joined_all ws ns) low) ∙ numbers_spelled ws ns within.1)

pub numbers_within : (ws : List ℕ) (n : ℕ) → n < 2 ^ sum_of ws → AreWithin ws (numbers_of ws n)
numbers_within [] n below = tt
numbers_within (w ∷ ws) n below = (shr_below n w (sum_of ws) below, numbers_within ws (n % 2 ^ sum_of ws) (mod_below n (2 ^ sum_of ws) (pow_pos (sum_of ws))))

pub spelled_numbers : (ws : List ℕ) (n : ℕ) → n < 2 ^ sum_of ws → joined_all ws (numbers_of ws n) ≡ n
spelled_numbers [] n below = omega arith
spelled_numbers (w ∷ ws) n below =
    ap (λ (m : ℕ). n / 2 ^ sum_of ws * 2 ^ sum_of ws + m) (spelled_numbers ws (n % 2 ^ sum_of ws) (mod_below n (2 ^ sum_of ws) (pow_pos (sum_of ws))))
    ∙ div-add-mod' n (2 ^ sum_of ws)

-- numbers that come before others spell less
higher : (x y p r s : ℕ) → x < y → r < p → x * p + r < y * p + s
higher x y p r s less low =
    let more : suc x * p ≤ y * p = mul-le (suc x) p y p (omega arith) (omega arith) in
    let one : suc x * p ≡ x * p + p = suc-mul x p in
    omega (arith, more, one, low)

pub before_spelled : (ws ms ns : List ℕ) → AreWithin ws ms → AreWithin ws ns → ComesBefore ms ns → joined_all ws ms < joined_all ws ns
before_spelled [] [] ns a b comes = absurd comes
before_spelled [] (m ∷ ms) ns a b comes = absurd a
before_spelled (w ∷ ws) [] ns a b comes = absurd a
before_spelled (w ∷ ws) (x ∷ xs) [] a b comes = absurd b
before_spelled (w ∷ ws) (x ∷ xs) (y ∷ ys) a b (inl less) = higher x y (2 ^ sum_of ws) (joined_all ws xs) (joined_all ws ys) less (spelled_below ws xs a.1)
before_spelled (w ∷ ws) (x ∷ xs) (y ∷ ys) a b (inr (same, later)) =
    let rest = before_spelled ws xs ys a.1 b.1 later in
    subst (λ (z : ℕ). x * 2 ^ sum_of ws + joined_all ws xs < z * 2 ^ sum_of ws + joined_all ws ys) same (omega arith)

-- of two lists of numbers one comes before the other, or they are one
compared : (ws ms ns : List ℕ) → AreWithin ws ms → AreWithin ws ns → ComesBefore ms ns ⊎ ((ms ≡ ns) ⊎ ComesBefore ns ms)
compared [] [] [] a b = inr (inl refl)
compared [] [] (n ∷ ns) a b = absurd b
compared [] (m ∷ ms) ns a b = absurd a
compared (w ∷ ws) [] ns a b = absurd a
compared (w ∷ ws) (x ∷ xs) [] a b = absurd b
compared (w ∷ ws) (x ∷ xs) (y ∷ ys) a b = elim (cases_lt x y) [
  | inl less ↦ inl (inl less)
  | inr not_less ↦ elim (cases_lt y x) [
    | inl more ↦ inr (inr (inl more))
    | inr not_more ↦ first_same (omega arith) (compared ws xs ys a.1 b.1)
  ]
]
  where
    first_same : x ≡ y → ComesBefore xs ys ⊎ ((xs ≡ ys) ⊎ ComesBefore ys xs) → ComesBefore (x ∷ xs) (y ∷ ys) ⊎ ((x ∷ xs ≡ y ∷ ys) ⊎ ComesBefore (y ∷ ys) (x ∷ xs))
    first_same same (inl before) = inl (inr (same, before))
    first_same same (inr (inl one)) = inr (inl (ap₂ (λ (z : ℕ) (zs : List ℕ). z ∷ zs) same one))
    first_same same (inr (inr behind)) = inr (inr (inr (sym same, behind)))

pub spelled_before : (ws ms ns : List ℕ) → AreWithin ws ms → AreWithin ws ns → joined_all ws ms < joined_all ws ns → ComesBefore ms ns
spelled_before ws ms ns a b less = by_order (compared ws ms ns a b)
  where
    by_order : ComesBefore ms ns ⊎ ((ms ≡ ns) ⊎ ComesBefore ns ms) → ComesBefore ms ns
    by_order (inl before) = before
    by_order (inr (inl one)) = absurd (let e = ap (joined_all ws) one in omega (arith, e, less))
    by_order (inr (inr behind)) = absurd (let more = before_spelled ws ns ms b a behind in omega (arith, more, less))

pub counted : (ws : List ℕ) (n : ℕ) → n < 2 ^ sum_of ws → IsCounted ws n
counted ws n below = record { within = numbers_within ws n below; back = spelled_numbers ws n below }

pub met : (ws ns : List ℕ) → AreWithin ws ns → IsMet ws ns
met ws ns within = record { below = spelled_below ws ns within; there = numbers_spelled ws ns within }

-- a rule that holds at every number that counts holds at all numbers of the widths
pub always : (Holds : List ℕ → Type 0) (ws : List ℕ) → ((n : ℕ) → n < 2 ^ sum_of ws → Holds (numbers_of ws n)) → HoldsAlways Holds ws
always Holds ws holds ns within = subst Holds (numbers_spelled ws ns within) (holds (joined_all ws ns) (spelled_below ws ns within))

-- the first number at which it doesn't spells the least
pub least_fails : (Holds : List ℕ → Type 0) (ws : List ℕ) (n : ℕ) → n < 2 ^ sum_of ws → ((c : ℕ) → c < n → Holds (numbers_of ws c)) → (Holds (numbers_of ws n) → ⊥) → IsLeastFailing Holds ws (numbers_of ws n)
least_fails Holds ws n below holds fails = record {
  within = numbers_within ws n below;
  fails = fails;
  least = λ ms within comes.
      let less = before_spelled ws ms (numbers_of ws n) within (numbers_within ws n below) comes in
      let under : joined_all ws ms < n = subst (λ (m : ℕ). joined_all ws ms < m) (spelled_numbers ws n below) less in
      subst Holds (numbers_spelled ws ms within) (holds (joined_all ws ms) under);
}

-- a number that the trial takes is below 2 to the sum of the widths
pub tried_below : (ws : List ℕ) (count n : ℕ) → count ≡ sum_of ws → sum_of ws ≤ 31 → n < 1 * 2 ^ count % 4294967296 → n < 2 ^ sum_of ws
tried_below ws count n e few below =
    let one = shl_one count (omega (arith, e, few)) in
    subst (λ (m : ℕ). n < 2 ^ m) e (let h : n < 2 ^ count = omega (arith, one, below) in h)

-- its numbers are within their widths
pub tried_within : (ws : List ℕ) (count n : ℕ) (numbers : List ℕ) → count ≡ sum_of ws → sum_of ws ≤ 31 → n < 1 * 2 ^ count % 4294967296 → numbers ≡ numbers_of ws n → AreWithin ws numbers
tried_within ws count n numbers e few below made = subst (AreWithin ws) (sym made) (numbers_within ws n (tried_below ws count n e few below))

-- what the trial of one number after another finds: that it fails here, or always holds
pub found : (Holds : List ℕ → Type 0) (ws : List ℕ) (count n : ℕ) (numbers : List ℕ) (passed : Bool) → count ≡ sum_of ws → sum_of ws ≤ 31 → n < 1 * 2 ^ count % 4294967296 →
    ((c : ℕ) → c < n → Holds (numbers_of ws c)) → numbers ≡ numbers_of ws n → Decides passed (Holds numbers) → passed ≡ false → IsLeastFailing Holds ws numbers
found Holds ws count n numbers passed e few below holds made decides failed =
    subst (IsLeastFailing Holds ws) (sym made)
    (least_fails Holds ws n (tried_below ws count n e few below) holds (λ here. not_both (decides.1 (subst Holds (sym made) here)) failed))

pub none_found : (Holds : List ℕ → Type 0) (ws : List ℕ) (count n : ℕ) → count ≡ sum_of ws → sum_of ws ≤ 31 → 1 * 2 ^ count % 4294967296 ≤ n → ((c : ℕ) → c < n → Holds (numbers_of ws c)) → HoldsAlways Holds ws
none_found Holds ws count n e few past holds =
    let one = shl_one count (omega (arith, e, few)) in
    let reach : 2 ^ sum_of ws ≤ n = subst (λ (m : ℕ). 2 ^ m ≤ n) e (let h : 2 ^ count ≤ n = omega (arith, one, past) in h) in
    always Holds ws (λ m below. holds m (omega (arith, below, reach)))
