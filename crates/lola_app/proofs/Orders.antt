-- Numbers of given widths, and the one number that their bits spell.
use Rattle.std.proofs.Common.{◌≡◌, ℕ, suc, ◌+◌, ◌*◌, ◌/◌, ◌%◌, ◌<◌, ◌≤◌, ◌^◌, Bool, true, false, List, [], ◌∷◌, refl, sym, ap, ap₂, ◌∙◌, subst, arith, inl, inr}
use Rattle.std.proofs.lemmas.Nat.{pow_below, pow_pos, pow-add, shr_high, mod_low, shr_below, mod_below, mul-le, mul-add-lt, div-add-mod'}
use Rattle.std.proofs.Math.Nat.{suc-mul}
use Rattle.lola_app.specs.Obligations.{total, ComesBefore}
use Rattle.lola_app.specs.Valuations.{AreWithin, numbers_of, Always, IsLeast}

-- the code's shift of 1
pub shl_one : (k : ℕ) → k ≤ 16 → 1 * 2 ^ k % 4294967296 ≡ 2 ^ k
shl_one k small = let p : 2 ^ k < 2 ^ 32 = pow_below k 32 (omega arith) in omega arith

-- the number that numbers of these widths spell
abbrev pub spelled : List ℕ → List ℕ → ℕ
spelled [] ns = 0
spelled (w ∷ ws) [] = 0
spelled (w ∷ ws) (n ∷ ns) = n * 2 ^ total ws + spelled ws ns

pub spelled_below : (ws ns : List ℕ) → AreWithin ws ns → spelled ws ns < 2 ^ total ws
spelled_below [] ns within = omega arith
spelled_below (w ∷ ws) [] within = absurd within
spelled_below (w ∷ ws) (n ∷ ns) within =
    subst (λ (m : ℕ). n * 2 ^ total ws + spelled ws ns < m) (sym (pow-add 2 w (total ws) ∙ turned (2 ^ w) (2 ^ total ws)))
    (mul-add-lt n (2 ^ total ws) (spelled ws ns) (2 ^ w) within.0 (spelled_below ws ns within.1))
  where
    turned : (a b : ℕ) → a * b ≡ b * a
    turned a b = omega arith

pub numbers_spelled : (ws ns : List ℕ) → AreWithin ws ns → numbers_of ws (spelled ws ns) ≡ ns
numbers_spelled [] [] within = refl
numbers_spelled [] (n ∷ ns) within = absurd within
numbers_spelled (w ∷ ws) [] within = absurd within
numbers_spelled (w ∷ ws) (n ∷ ns) within =
    let low = spelled_below ws ns within.1 in
    ap₂ (λ (x : ℕ) (xs : List ℕ). x ∷ xs) (shr_high n (total ws) (spelled ws ns) low)
    (ap (numbers_of ws) (mod_low n (total ws) (spelled ws ns) low) ∙ numbers_spelled ws ns within.1)

pub numbers_within : (ws : List ℕ) (n : ℕ) → n < 2 ^ total ws → AreWithin ws (numbers_of ws n)
numbers_within [] n below = tt
numbers_within (w ∷ ws) n below = (shr_below n w (total ws) below, numbers_within ws (n % 2 ^ total ws) (mod_below n (2 ^ total ws) (pow_pos (total ws))))

pub spelled_numbers : (ws : List ℕ) (n : ℕ) → n < 2 ^ total ws → spelled ws (numbers_of ws n) ≡ n
spelled_numbers [] n below = omega arith
spelled_numbers (w ∷ ws) n below =
    ap (λ (m : ℕ). n / 2 ^ total ws * 2 ^ total ws + m) (spelled_numbers ws (n % 2 ^ total ws) (mod_below n (2 ^ total ws) (pow_pos (total ws))))
    ∙ div-add-mod' n (2 ^ total ws)

-- numbers that come before others spell less
higher : (x y p r s : ℕ) → x < y → r < p → x * p + r < y * p + s
higher x y p r s less low =
    let more : suc x * p ≤ y * p = mul-le (suc x) p y p (omega arith) (omega arith) in
    let one : suc x * p ≡ x * p + p = suc-mul x p in
    omega (arith, more, one, low)

pub before_spelled : (ws ms ns : List ℕ) → AreWithin ws ms → AreWithin ws ns → ComesBefore ms ns → spelled ws ms < spelled ws ns
before_spelled [] [] ns a b comes = absurd comes
before_spelled [] (m ∷ ms) ns a b comes = absurd a
before_spelled (w ∷ ws) [] ns a b comes = absurd a
before_spelled (w ∷ ws) (x ∷ xs) [] a b comes = absurd b
before_spelled (w ∷ ws) (x ∷ xs) (y ∷ ys) a b (inl less) = higher x y (2 ^ total ws) (spelled ws xs) (spelled ws ys) less (spelled_below ws xs a.1)
before_spelled (w ∷ ws) (x ∷ xs) (y ∷ ys) a b (inr (same, later)) =
    let rest = before_spelled ws xs ys a.1 b.1 later in
    subst (λ (z : ℕ). x * 2 ^ total ws + spelled ws xs < z * 2 ^ total ws + spelled ws ys) same (omega arith)

-- a test that passes at every number passes at all numbers of the widths
pub always : (test : List ℕ → Bool) (ws : List ℕ) → ((n : ℕ) → n < 2 ^ total ws → test (numbers_of ws n) ≡ true) → Always test ws
always test ws passes ns within = ap test (sym (numbers_spelled ws ns within)) ∙ passes (spelled ws ns) (spelled_below ws ns within)

-- the first number at which it fails spells the least
pub least_fails : (test : List ℕ → Bool) (ws : List ℕ) (n : ℕ) → n < 2 ^ total ws → ((c : ℕ) → c < n → test (numbers_of ws c) ≡ true) → test (numbers_of ws n) ≡ false → IsLeast test ws (numbers_of ws n)
least_fails test ws n below passes fails = record {
  within = numbers_within ws n below;
  fails = fails;
  least = λ ms within comes.
      let less = before_spelled ws ms (numbers_of ws n) within (numbers_within ws n below) comes in
      let under : spelled ws ms < n = subst (λ m. spelled ws ms < m) (spelled_numbers ws n below) less in
      ap test (sym (numbers_spelled ws ms within)) ∙ passes (spelled ws ms) under;
}

-- the numbers that are tried are within their widths
pub tried_within : (ws widths : List ℕ) (count n : ℕ) (numbers : List ℕ) → widths ≡ ws → count ≡ total widths → total ws ≤ 16 → n < 1 * 2 ^ count % 4294967296 → numbers ≡ numbers_of widths n → AreWithin ws numbers
tried_within ws widths count n numbers same e few below made =
    let counted : count ≡ total ws = e ∙ ap total same in
    let one = shl_one count (omega (arith, counted, few)) in
    let under : n < 2 ^ total ws = subst (λ m. n < 2 ^ m) counted (let h : n < 2 ^ count = omega (arith, one, below) in h) in
    subst (AreWithin ws) (sym (made ∙ ap (λ vs. numbers_of vs n) same)) (numbers_within ws n under)

-- what the trial of one number after another finds
pub found : (test : List ℕ → Bool) (ws widths : List ℕ) (count n : ℕ) (numbers : List ℕ) (held : Bool) → widths ≡ ws → count ≡ total widths → total ws ≤ 16 → n < 1 * 2 ^ count % 4294967296 →
    ((c : ℕ) → c < n → test (numbers_of ws c) ≡ true) → numbers ≡ numbers_of widths n → held ≡ test numbers → held ≡ false → IsLeast test ws numbers
found test ws widths count n numbers held same e few below passes made holds failed =
    let counted : count ≡ total ws = e ∙ ap total same in
    let one = shl_one count (omega arith) in
    let under : n < 2 ^ total ws = subst (λ m. n < 2 ^ m) counted (let h : n < 2 ^ count = omega arith in h) in
    let all : numbers ≡ numbers_of ws n = made ∙ ap (λ vs. numbers_of vs n) same in
    let fails : test (numbers_of ws n) ≡ false = ap test (sym all) ∙ sym holds ∙ failed in
    subst (IsLeast test ws) (sym all) (least_fails test ws n under passes fails)

pub none_found : (test : List ℕ → Bool) (ws widths : List ℕ) (count n : ℕ) → widths ≡ ws → count ≡ total widths → total ws ≤ 16 → 1 * 2 ^ count % 4294967296 ≤ n →
    ((c : ℕ) → c < n → test (numbers_of ws c) ≡ true) → Always test ws
none_found test ws widths count n same e few past passes =
    let counted : count ≡ total ws = e ∙ ap total same in
    let one = shl_one count (omega arith) in
    let reach : 2 ^ total ws ≤ n = subst (λ m. 2 ^ m ≤ n) counted (let h : 2 ^ count ≤ n = omega arith in h) in
    always test ws (λ m below. passes m (omega arith))
