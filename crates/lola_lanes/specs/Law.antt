-- The algebra of 64 cases keeps the law.
use Rattle.std.proofs.Common.{◌≡◌, ℕ, zero, suc, ◌-◌, ◌^◌, ◌<◌, Bool, true, false, cond, not, ◌&&◌, min, [], ◌∷◌, Option, Some, refl, ap, subst, ◌∙◌, arith}
use Rattle.std.specs.Prelude.{nat_eq, nat_lt, bit_and}
use Rattle.std.specs.Int.{bit_at, w64}
use Rattle.std.proofs.lemmas.Nat.Bits.{bit_at_and, bit_at_not, bit_at-zero}
use Rattle.std.proofs.lemmas.Bool.{ltb-true, lt-ltb}
use Rattle.std.proofs.lemmas.Nat.{and_le_l}
use Rattle.lola_bits.proofs.BitLists.{number_below, bit_below}
use Rattle.lola_bits.proofs.Options.{some_same}
use Rattle.lola_alg.specs.Algebra.{Answers, IsAlgebra}
use Rattle.lola_lanes.specs.Lanes.{case_of, lane, lane_calls, lane_meaning}

case_below : (v : ℕ → Bool) → case_of v < 64
case_below v = number_below (v 0 ∷ v 1 ∷ v 2 ∷ v 3 ∷ v 4 ∷ v 5 ∷ [])

-- the digits 0 and 1
digit_not : (d : ℕ) → d < 2 → nat_eq (1 - d) 1 ≡ not (nat_eq d 1)
digit_not zero e = refl
digit_not (suc zero) e = refl
digit_not (suc (suc d)) e = absurd (omega arith)

digit_and : (a b : ℕ) → a < 2 → b < 2 → nat_eq (min a b) 1 ≡ (nat_eq a 1 && nat_eq b 1)
digit_and zero zero p q = refl
digit_and zero (suc zero) p q = refl
digit_and (suc zero) zero p q = refl
digit_and (suc zero) (suc zero) p q = refl
digit_and (suc (suc a)) b p q = absurd (omega arith)
digit_and a (suc (suc b)) p q = absurd (omega arith)

lane_not : (w n : ℕ) → w < 2 ^ 64 → n < 64 → lane n (18446744073709551615 - w) ≡ not (lane n w)
lane_not w n below inside = ap (λ d. nat_eq d 1) (bit_at_not w64 w n below inside) ∙ digit_not (bit_at w n) (bit_below w n)

lane_and : (a b n : ℕ) → lane n (bit_and a b) ≡ (lane n a && lane n b)
lane_and a b n = ap (λ d. nat_eq d 1) (bit_at_and a b n) ∙ digit_and (bit_at a n) (bit_at b n) (bit_below a n) (bit_below b n)

pub lane_constant : (b : Bool) (n : ℕ) → n < 64 → lane n (cond b 18446744073709551615 0) ≡ b
lane_constant false n inside = ap (λ d. nat_eq d 1) (bit_at-zero n)
lane_constant true n inside = lane_not 0 n (omega arith) inside ∙ ap (λ d. not (nat_eq d 1)) (bit_at-zero n)

known : (w : ℕ) → nat_lt w (2 ^ 64) ≡ true → w < 2 ^ 64
known w e = ltb-true w (2 ^ 64) e

knows : (w : ℕ) → w < 2 ^ 64 → nat_lt w (2 ^ 64) ≡ true
knows w e = lt-ltb w (2 ^ 64) e

pub constant_below : (b : Bool) → cond b 18446744073709551615 0 < 2 ^ 64
constant_below true = omega arith
constant_below false = omega arith

made_both : (a b : ℕ) (made : Unit {0} × ℕ) → nat_lt a (2 ^ 64) ≡ true → nat_lt b (2 ^ 64) ≡ true → ◌≡◌ {A = Option (Unit {0} × ℕ)} (Some (tt, bit_and a b)) (Some made) →
    Answers lane_meaning tt made (λ v. lane (case_of v) a && lane (case_of v) b)
made_both a b made ka kb e =
    subst (λ r. Answers lane_meaning tt r (λ v. lane (case_of v) a && lane (case_of v) b)) (some_same (tt, bit_and a b) made e) (record {
      stays = λ c k. (k, λ v. refl);
      known = knows (bit_and a b) (and_below a b (known a ka));
      means = λ v. lane_and a b (case_of v);
    })
  where
    and_below : (a b : ℕ) → a < 2 ^ 64 → bit_and a b < 2 ^ 64
    and_below a b p = let h = and_le_l a b in omega arith

pub lane_law : IsAlgebra lane_calls lane_meaning
lane_law = record {
  constant = λ d b. record { stays = λ c k. (k, λ v. refl); known = knows (cond b 18446744073709551615 0) (constant_below b); means = λ v. lane_constant b (case_of v) (case_below v) };
  negated = λ d a k. record { stays = λ c k. (k, λ v. refl); known = knows (18446744073709551615 - a) (omega arith); means = λ v. lane_not a (case_of v) (known a k) (case_below v) };
  both = λ d a b made ka kb e. made_both a b made ka kb e;
}
