-- Sums of widths that are known up to a bound.
use Rattle.std.proofs.Common.{◌≡◌, ℕ, ◌+◌, ◌*◌, ◌≤◌, zero, suc, min, Option, Some, None, refl, sym, ap, ◌∙◌, arith, inl, inr}
use Rattle.std.proofs.Math.Nat.{le-mul_of_pos_right}
use Rattle.std.proofs.lemmas.Bool.{cases_lt}
use Rattle.lola_tree.specs.Width.{checked_width, joined_width}
use Rattle.lola_width.specs.Capped.{capped, capped_width}
use Rattle.lola_width.specs.WidthFaults.{wide}

pub capped_product : (n w : ℕ) → min (min n 129 * w) 129 ≡ min (n * w) 129
capped_product n w = elim (cases_lt n 129) [
  | inl few ↦ let e : min n 129 ≡ n = omega arith in rw e refl
  | inr many ↦ long w (let e : min n 129 ≡ 129 = omega arith in e)
]
  where
    long : (w : ℕ) → min n 129 ≡ 129 → min (min n 129 * w) 129 ≡ min (n * w) 129
    long zero e = omega arith
    long (suc v) e =
        let p : n ≤ n * suc v = le-mul_of_pos_right {m = suc v} n (omega arith) in
        let r : 129 ≤ n = omega arith in
        rw e (omega arith)

capped_sum : (m n : ℕ) → capped (capped m + n) ≡ capped (m + n)
capped_sum m n = omega arith

pub capped_joined : (a b : Option ℕ) → capped_width (joined_width (capped_width a) b) ≡ capped_width (joined_width a b)
capped_joined None b = refl
capped_joined (Some m) None = refl
capped_joined (Some m) (Some n) = ap Some (capped_sum m n)

joined_swap : (a b : Option ℕ) → joined_width a b ≡ joined_width b a
joined_swap None None = refl
joined_swap None (Some n) = refl
joined_swap (Some m) None = refl
joined_swap (Some m) (Some n) = ap Some (omega arith)

joined_assoc : (a b c : Option ℕ) → joined_width (joined_width a b) c ≡ joined_width a (joined_width b c)
joined_assoc None b c = refl
joined_assoc (Some m) None c = refl
joined_assoc (Some m) (Some n) None = refl
joined_assoc (Some m) (Some n) (Some k) = ap Some (omega arith)

-- one part more
pub capped_step : (total part rest : Option ℕ) →
    capped_width (joined_width (capped_width (joined_width total (capped_width part))) rest) ≡ capped_width (joined_width total (joined_width part rest))
capped_step total part rest =
    capped_joined (joined_width total (capped_width part)) rest
    ∙ ap (λ o. capped_width (joined_width o rest)) (joined_swap total (capped_width part))
    ∙ ap capped_width (joined_assoc (capped_width part) total rest)
    ∙ capped_joined part (joined_width total rest)
    ∙ ap capped_width (sym (joined_assoc part total rest) ∙ ap (λ o. joined_width o rest) (joined_swap part total) ∙ joined_assoc total part rest)

pub capped_twice : (o : Option ℕ) → capped_width (capped_width o) ≡ capped_width o
capped_twice None = refl
capped_twice (Some n) = ap Some (omega arith)

pub capped_checked : (o : Option ℕ) → checked_width (capped_width o) ≡ checked_width o
capped_checked None = refl
capped_checked (Some n) = elim (cases_lt n 129) [
  | inl few ↦ let e : capped n ≡ n = omega arith in ap (λ k. checked_width (Some k)) e
  | inr many ↦ let e : capped n ≡ 129 = omega arith in ap (λ k. checked_width (Some k)) e ∙ none_from n many
]
  where
    none_from : (n : ℕ) → 129 ≤ n → None ≡ checked_width (Some n)
    none_from n many = grind arith

pub capped_wide : (at : ℕ) (o : Option ℕ) → wide at (capped_width o) ≡ wide at o
capped_wide at None = refl
capped_wide at (Some n) = elim (cases_lt n 129) [
  | inl few ↦ let e : capped n ≡ n = omega arith in ap (λ k. wide at (Some k)) e
  | inr many ↦ let e : capped n ≡ 129 = omega arith in ap (λ k. wide at (Some k)) e ∙ one_from n many
]
  where
    one_from : (n : ℕ) → 129 ≤ n → wide at (Some 129) ≡ wide at (Some n)
    one_from n many = grind arith

-- no part adds nothing
pub joined_none : (o : Option ℕ) → joined_width (Some 0) o ≡ o
joined_none None = refl
joined_none (Some n) = ap Some (omega arith)

pub joined_last : (o : Option ℕ) → joined_width o (Some 0) ≡ o
joined_last None = refl
joined_last (Some n) = ap Some (omega arith)
