-- Facts of the numbers that operators make, over any width of at most 128 bits.
use Rattle.std.proofs.Common.{◌≡◌, ℕ, zero, suc, ◌+◌, ◌-◌, ◌*◌, ◌/◌, ◌%◌, ◌^◌, ◌<◌, ◌≤◌, true, nat_eq, bit_or, bit_xor, sym, ◌∙◌, ap, subst, inl, inr, arith}
use Rattle.std.proofs.lemmas.Nat.{pow_pos, pow-add, or_lt, xor_lt, shr_split, or_shifted, shl_whole, shr_below, mod_low, mod_below, mul-add-lt}
use Rattle.std.proofs.lemmas.Nat.Bits.{ones_shr}
use Rattle.std.proofs.lemmas.Bool.{eqb-true, cases_lt}
use Rattle.std.proofs.Math.Pow.{mod-mod-pow}
use Rattle.std.proofs.Math.Nat.{add-mul-mod_self_right, mul-mod_left, div-eq_of_lt, mod-eq_of_lt, mul_assoc, zero-div, pow-le-pow_right, add_comm, add-mul, one-mul, mul-le-mul_right, div-one}
use Rattle.lola_bits.specs.Number.{bit_at, slice_of, joined, difference, moved_up, moved_down, moved_filled, turned}
use Rattle.lola_bits.specs.Vector.{FitsWidth}

-- a power in two parts
power_split : (w top : ℕ) → w ≤ top → 2 ^ top ≡ 2 ^ (top - w) * 2 ^ w
power_split w top h = let e : top - w + w ≡ top = omega arith in sym (ap (λ k. 2 ^ k) e) ∙ pow-add 2 (top - w) w

-- all ones of a width are those of the longest width, 128, moved down
pub ones_moved : (w : ℕ) → w ≤ 128 → (2 ^ 128 - 1) / 2 ^ (128 - w) ≡ 2 ^ w - 1
ones_moved w h = let e : 128 - (128 - w) ≡ w = omega arith in ones_shr 128 (128 - w) (omega arith) ∙ ap (λ k. 2 ^ k - 1) e

-- to cut a number to a longer width first changes nothing
cut_twice : (n w top : ℕ) → w ≤ top → n % 2 ^ top % 2 ^ w ≡ n % 2 ^ w
cut_twice n w top h = let e : top - w + w ≡ top = omega arith in ap (λ k. n % 2 ^ k % 2 ^ w) (sym e) ∙ mod-mod-pow n (top - w) w

-- and so to cut it to the 128 bits of the longest width
pub cut_after_128 : (n w : ℕ) → w ≤ 128 → n % 2 ^ 128 % 2 ^ w ≡ n % 2 ^ w
cut_after_128 n w h = cut_twice n w 128 h

-- a product is one of its factors and one time less
one_less : (m p : ℕ) → 0 < m → m * p ≡ p + (m - 1) * p
one_less m p h = let e : m ≡ 1 + (m - 1) = omega arith in omega (arith, ap (λ k. k * p) e ∙ add-mul 1 (m - 1) p)

-- a difference that goes round at a longer width is the same at the width
difference_cut : (x y w top : ℕ) → w ≤ top → y < 2 ^ w → (x + (2 ^ top - y)) % 2 ^ top % 2 ^ w ≡ difference w x y
difference_cut x y w top h below =
    let split : 2 ^ top ≡ 2 ^ w + (2 ^ (top - w) - 1) * 2 ^ w = power_split w top h ∙ one_less (2 ^ (top - w)) (2 ^ w) (pow_pos (top - w)) in
    let e : x + (2 ^ top - y) ≡ 2 ^ w + x - y + (2 ^ (top - w) - 1) * 2 ^ w = omega arith in
    cut_twice (x + (2 ^ top - y)) w top h ∙ ap (λ n. n % 2 ^ w) e ∙ add-mul-mod_self_right (2 ^ w + x - y) (2 ^ (top - w) - 1) (2 ^ w)

-- and so one that goes round at 128 bits
pub difference_after_128 : (x y w v : ℕ) → w ≤ 128 → FitsWidth v y → v ≡ w → (x + (2 ^ 128 - y)) % 2 ^ 128 % 2 ^ w ≡ difference w x y
difference_after_128 x y w v h fits e = difference_cut x y w 128 h (subst (λ k. y < 2 ^ k) e fits.below)

-- a number moved up, with another put below it by `|`, is the two joined
pub joined_is : (x y v w : ℕ) → FitsWidth v x → FitsWidth w y → v + w ≤ 128 → bit_or (x * 2 ^ w % 2 ^ 128) y ≡ joined x w y
joined_is x y v w p q h = rw (shl_whole x v w 128 p.below h) (or_shifted x w y q.below)

-- it is as wide as both together
pub joined_fits : (x y v w : ℕ) → FitsWidth v x → FitsWidth w y → v + w ≤ 128 → FitsWidth (v + w) (bit_or (x * 2 ^ w % 2 ^ 128) y)
joined_fits x y v w p q h =
    let positive : 1 ≤ v + w = omega (arith, p.positive) in
    let power : 2 ^ (v + w) ≡ 2 ^ w * 2 ^ v = ap (λ k. 2 ^ k) (add_comm v w) ∙ pow-add 2 w v in
    let below : joined x w y < 2 ^ (v + w) = rw power (mul-add-lt x (2 ^ w) y (2 ^ v) p.below q.below) in
    record { positive = positive; at_most = h; below = rw (joined_is x y v w p q h) below }

-- what is moved up by the width or more leaves nothing
pub all_moved_up : (x n w : ℕ) → w ≤ n → moved_up w x n ≡ 0
all_moved_up x n w h = rw (power_split w n h, ← mul_assoc) (mul-mod_left (x * 2 ^ (n - w)) (2 ^ w))

-- and so what is moved down
pub all_moved_down : (x n w : ℕ) → x < 2 ^ w → w ≤ n → moved_down x n ≡ 0
all_moved_down x n w below h = let k : 2 ^ w ≤ 2 ^ n = pow-le-pow_right (omega arith) h in div-eq_of_lt (omega arith)

-- the top bit is 0 or 1
top_below : (x w : ℕ) → 1 ≤ w → x < 2 ^ w → x / 2 ^ (w - 1) < 2
top_below x w h below = let e : 1 + (w - 1) ≡ w = omega arith in shr_below x 1 (w - 1) (subst (λ k. x < 2 ^ k) (sym e) below)

-- where the test of the top bit holds, it is 1
pub top_is_one : (x w : ℕ) → FitsWidth w x → nat_eq (bit_at x (w - 1)) 1 ≡ true → x / 2 ^ (w - 1) ≡ 1
top_is_one x w fits is = sym (mod-eq_of_lt (top_below x w fits.positive fits.below)) ∙ eqb-true (bit_at x (w - 1)) 1 is

-- copies of a bit, less those moved down, are the copies above
copies_above : (t w n : ℕ) → t < 2 → n ≤ w → t * (2 ^ w - 1) - t * (2 ^ w - 1) / 2 ^ n ≡ t * (2 ^ w - 2 ^ (w - n))
copies_above zero w n p h = let e : 0 / 2 ^ n ≡ 0 = zero-div (2 ^ n) in omega arith
copies_above (suc zero) w n p h = let e : 1 * (2 ^ w - 1) / 2 ^ n ≡ 2 ^ (w - n) - 1 = ap (λ v. v / 2 ^ n) (one-mul (2 ^ w - 1)) ∙ ones_shr w n h in omega (arith, pow_pos (w - n))
copies_above (suc (suc t)) w n p h = absurd (omega arith)

-- what is moved down, with the copies above put to it, is moved down with the top bit filled in
pub filled_is : (x w n : ℕ) → FitsWidth w x → n ≤ w → x / 2 ^ n + (x / 2 ^ (w - 1) * (2 ^ w - 1) - x / 2 ^ (w - 1) * (2 ^ w - 1) / 2 ^ n) ≡ moved_filled w x n
filled_is x w n fits h = ap (λ v. x / 2 ^ n + v) (copies_above (x / 2 ^ (w - 1)) w n (top_below x w fits.positive fits.below) h)

-- it has the width
pub filled_below : (x w n : ℕ) → FitsWidth w x → n ≤ w → moved_filled w x n < 2 ^ w
filled_below x w n fits h =
    let e : w - n + n ≡ w = omega arith in
    let low : x / 2 ^ n < 2 ^ (w - n) = shr_below x (w - n) n (subst (λ k. x < 2 ^ k) (sym e) fits.below) in
    let part : 2 ^ (w - n) ≤ 2 ^ w = pow-le-pow_right (omega arith) (omega arith) in
    let one : x / 2 ^ (w - 1) * (2 ^ w - 2 ^ (w - n)) ≤ 1 * (2 ^ w - 2 ^ (w - n)) = mul-le-mul_right (2 ^ w - 2 ^ (w - n)) (omega (arith, top_below x w fits.positive fits.below)) in
    omega arith

-- by the width or more, it is copies of the top bit
pub all_filled : (x w n : ℕ) → FitsWidth w x → w ≤ n → moved_filled w x n ≡ x / 2 ^ (w - 1) * (2 ^ w - 1)
all_filled x w n fits h = let e : w - n ≡ 0 = omega arith in rw (all_moved_down x n w fits.below h, e) (omega arith)

-- the low k bits above the other j are the number turned by k
turned_joined : (x j k : ℕ) → x < 2 ^ (j + k) → x % 2 ^ k * 2 ^ j + x / 2 ^ k ≡ (x / 2 ^ k + x * 2 ^ j) % 2 ^ (j + k)
turned_joined x j k below =
    let q : ℕ = x / 2 ^ k in
    let r : ℕ = x % 2 ^ k in
    let power : 2 ^ k * 2 ^ j ≡ 2 ^ (j + k) = sym (pow-add 2 k j) ∙ ap (λ n. 2 ^ n) (add_comm k j) in
    let top : q * 2 ^ k * 2 ^ j ≡ q * 2 ^ (j + k) = mul_assoc q (2 ^ k) (2 ^ j) ∙ ap (λ n. q * n) power in
    let parts : x * 2 ^ j ≡ q * 2 ^ k * 2 ^ j + r * 2 ^ j = ap (λ n. n * 2 ^ j) (sym (shr_split x k)) ∙ add-mul (q * 2 ^ k) r (2 ^ j) in
    let high : q < 2 ^ j = shr_below x j k below in
    let low : r * 2 ^ j + q < 2 ^ (j + k) = rw (pow-add 2 j k) (mul-add-lt r (2 ^ j) q (2 ^ k) (mod_below x (2 ^ k) (pow_pos k)) high) in
    let e : q + x * 2 ^ j ≡ q * 2 ^ (j + k) + (r * 2 ^ j + q) = omega arith in
    sym (ap (λ n. n % 2 ^ (j + k)) e ∙ mod_low q (j + k) (r * 2 ^ j + q) low)

-- a turn by a multiple of the width leaves the number
pub turned_by_none : (x w n : ℕ) → x < 2 ^ w → n % w ≡ 0 → turned w x n ≡ x
turned_by_none x w n below none = let e : w - 0 ≡ w = omega arith in rw (none, div-one x, e) (add-mul-mod_self_right x x (2 ^ w) ∙ mod-eq_of_lt below)

-- the slice of the low bits joined above the slice of the high ones is the number turned
pub turned_slices : (x w k : ℕ) → x < 2 ^ w → 0 < k → k < w → joined (slice_of x (k - 1) 0) (w - 1 - k + 1) (slice_of x (w - 1) k) ≡ (x / 2 ^ k + x * 2 ^ (w - k)) % 2 ^ w
turned_slices x w k below some within =
    let low : k - 1 - 0 + 1 ≡ k = omega arith in
    let high : w - 1 - k + 1 ≡ w - k = omega arith in
    let whole : w - k + k ≡ w = omega arith in
    let below_whole : x < 2 ^ (w - k + k) = subst (λ k. x < 2 ^ k) (sym whole) below in
    rw (low, high, div-one x, mod-eq_of_lt (shr_below x (w - k) k below_whole)) (rw whole at (turned_joined x (w - k) k below_whole))

-- of two numbers of one width, `|` has that width
pub or_fits : (w v x y : ℕ) → FitsWidth w x → FitsWidth v y → v ≡ w → FitsWidth w (bit_or x y)
or_fits w v x y p q e = let below : y < 2 ^ w = subst (λ k. y < 2 ^ k) e q.below in record { positive = p.positive; at_most = p.at_most; below = or_lt w x y p.below below }

-- and so `^`
pub xor_fits : (w v x y : ℕ) → FitsWidth w x → FitsWidth v y → v ≡ w → FitsWidth w (bit_xor x y)
xor_fits w v x y p q e = let below : y < 2 ^ w = subst (λ k. y < 2 ^ k) e q.below in record { positive = p.positive; at_most = p.at_most; below = xor_lt w x y p.below below }

-- a number joined with another of a width is below 2 to both widths
pub joined_below : (x v y w : ℕ) → x < 2 ^ v → y < 2 ^ w → joined x w y < 2 ^ (v + w)
joined_below x v y w high low =
    let power : 2 ^ (v + w) ≡ 2 ^ w * 2 ^ v = ap (λ k. 2 ^ k) (add_comm v w) ∙ pow-add 2 w v in
    rw power (mul-add-lt x (2 ^ w) y (2 ^ v) high low)

-- what is moved down with the top bit filled in keeps its width, however far it moves
pub filled_fits : (x w n : ℕ) → FitsWidth w x → moved_filled w x n < 2 ^ w
filled_fits x w n fits = elim (cases_lt w n) [
  | inl far ↦
      let top = top_below x w fits.positive fits.below in
      let less : x / 2 ^ (w - 1) * (2 ^ w - 1) < 2 ^ w = copies_below (x / 2 ^ (w - 1)) top in
      subst (λ (y : ℕ). y < 2 ^ w) (sym (all_filled x w n fits (omega arith))) less
  | inr near ↦ filled_below x w n fits near
]
  where
    copies_below : (t : ℕ) → t < 2 → t * (2 ^ w - 1) < 2 ^ w
    copies_below zero low = omega (arith, pow_pos w)
    copies_below (suc zero) low = omega (arith, pow_pos w)
    copies_below (suc (suc t)) low = absurd (omega arith)
