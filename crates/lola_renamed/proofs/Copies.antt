-- A count that is small, and lists of the same number several times.
use Rattle.std.proofs.Common.{◌≡◌, ℕ, zero, suc, ◌+◌, ◌*◌, ◌^◌, ◌<◌, ◌≤◌, true, length, replicate, get_or, refl, sym, ◌∙◌, ap, ap₂, arith}
use Rattle.std.specs.Prelude.{nat_lt}
use Rattle.std.specs.List.{AllByRecursion}
use Rattle.std.proofs.lemmas.Bool.{cond-true}
use Rattle.std.proofs.lemmas.Bool.Decides.{nat_tests}
use Rattle.std.proofs.lemmas.Nat.{pow-add}
use Rattle.std.proofs.Math.Nat.{add-mul, mul_assoc}
use Rattle.lola_flat.specs.Value.{sum_of, joined_all}
use Rattle.lola_tree.specs.Value.{repeated}
use Rattle.lola_renamed.specs.Renamed.{small}

-- a count of at most 1,024
pub small_is : (n : ℕ) → n ≤ 1024 → small n ≡ n
small_is n few = cond-true (nat_lt n 1025) n 0 (below n 1025 (omega arith))
  where
    below : (m k : ℕ) → m < k → nat_lt m k ≡ true
    below m k h = grind (arith, nat_tests)

-- widths that are all the same
pub sum_same : (n w : ℕ) → sum_of (replicate n w) ≡ n * w
sum_same zero w = omega arith
sum_same (suc n) w = let h = sum_same n w in let e : suc n * w ≡ w + n * w = omega arith in ap (λ (k : ℕ). w + k) h ∙ sym e

pub length_same : {X : Type 0} (n : ℕ) (x : X) → length (replicate n x) ≡ n
length_same zero x = refl
length_same (suc n) x = ap suc (length_same n x)

pub first_same : (n w : ℕ) → 1 ≤ n → get_or (replicate n w) 0 0 ≡ w
first_same zero w some = absurd (omega arith)
first_same (suc n) w some = refl

pub all_are : (n w v : ℕ) → v ≡ w → AllByRecursion (λ (u : ℕ). u ≡ v) (replicate n w)
all_are zero w v same = tt
all_are (suc n) w v same = (sym same, all_are n w v same)

-- a number several times, from the front and from behind
moved : (n w x : ℕ) → x * 2 ^ (n * w) + repeated n w x ≡ repeated n w x * 2 ^ w + x
moved zero w x = let e : 2 ^ (0 * w) ≡ 1 = ap (λ (k : ℕ). 2 ^ k) (let z : 0 * w ≡ 0 = omega arith in z) in
    let f : x * 2 ^ (0 * w) ≡ x = ap (λ (k : ℕ). x * k) e ∙ (omega arith) in omega arith
moved (suc n) w x =
    let h = moved n w x in
    let size : suc n * w ≡ n * w + w = omega arith in
    let power : 2 ^ (suc n * w) ≡ 2 ^ (n * w) * 2 ^ w = ap (λ (k : ℕ). 2 ^ k) size ∙ pow-add 2 (n * w) w in
    let high : x * 2 ^ (suc n * w) ≡ x * 2 ^ (n * w) * 2 ^ w = ap (λ (k : ℕ). x * k) power ∙ sym (mul_assoc x (2 ^ (n * w)) (2 ^ w)) in
    let all : (x * 2 ^ (n * w) + repeated n w x) * 2 ^ w ≡ x * 2 ^ (n * w) * 2 ^ w + repeated n w x * 2 ^ w = add-mul (x * 2 ^ (n * w)) (repeated n w x) (2 ^ w) in
    let other : (x * 2 ^ (n * w) + repeated n w x) * 2 ^ w ≡ (repeated n w x * 2 ^ w + x) * 2 ^ w = ap (λ (k : ℕ). k * 2 ^ w) h in
    let next : repeated (suc n) w x ≡ repeated n w x * 2 ^ w + x = refl in
    let wide : repeated (suc n) w x * 2 ^ w ≡ (repeated n w x * 2 ^ w + x) * 2 ^ w = refl in
    omega (arith, high, all, other, next, wide)

pub joined_same : (n w x : ℕ) → joined_all (replicate n w) (replicate n x) ≡ repeated n w x
joined_same zero w x = refl
joined_same (suc n) w x =
    ap₂ (λ (k y : ℕ). x * 2 ^ k + y) (sum_same n w) (joined_same n w x) ∙ moved n w x
