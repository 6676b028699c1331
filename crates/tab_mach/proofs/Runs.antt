-- Bits one behind another.
use Rattle.std.proofs.Common.{◌≡◌, ℕ, suc, ◌+◌, ◌*◌, ◌^◌, ◌<◌, ◌≤◌, true, false, Some, None, refl, arith, ap, sym, ◌∙◌, inl, inr}
use Rattle.std.specs.Prelude.{nat_le}
use Rattle.std.proofs.lemmas.Bool.Decides.{nat_tests}
use Rattle.std.proofs.lemmas.Bool.{cases_lt}
use Rattle.lola_bits.specs.Number.{joined}
use Rattle.lola_tree.specs.Value.{repeated}
use Rattle.tab_tree.specs.Names.{vector}
use Rattle.tab_mach.specs.Vectors.{cut_vector, run_by, joined_run}

pub first_run : (w x : ℕ) → w ≡ 0 → x < 2 ^ w → x ≡ 0
first_run w x none small = let e : 2 ^ w ≡ 1 = ap (λ (n : ℕ). 2 ^ n) none in omega arith

pub small_run : (w n : ℕ) → w ≤ 128 → cut_vector w n ≡ Some (vector w n)
small_run w n small = let t : nat_le w 128 ≡ true = grind (arith, nat_tests) in rw t refl

pub large_run : (w n : ℕ) → 128 < w → cut_vector w n ≡ None
large_run w n large = let t : nat_le w 128 ≡ false = grind (arith, nat_tests) in rw t refl

-- what is cut at 128 bits, one behind the other
pub runs_join : (a x b y : ℕ) → joined_run (cut_vector a x) (cut_vector b y) ≡ cut_vector (a + b) (joined x b y)
runs_join a x b y = elim (cases_lt 128 a) [
  | inl large ↦ rw (large_run a x large, large_run (a + b) (joined x b y) (omega arith)) refl
  | inr small ↦ elim (cases_lt 128 b) [
    | inl wide ↦ rw (small_run a x small, large_run b y wide, large_run (a + b) (joined x b y) (omega arith)) refl
    | inr less ↦ rw (small_run a x small, small_run b y less) refl
  ]
]

-- one copy more
pub one_more : (times w n : ℕ) → w ≤ 128 → joined_run (run_by (Some (times * w)) (repeated times w n)) (Some (vector w n)) ≡ run_by (Some ((times + 1) * w)) (repeated (times + 1) w n)
one_more times w n small =
    ap (joined_run (cut_vector (times * w) (repeated times w n))) (sym (small_run w n small))
    ∙ runs_join (times * w) (repeated times w n) w n
    ∙ (let e : times + 1 ≡ suc times = omega arith in
    let p : times * w + w ≡ suc times * w = omega arith in
    ap (λ k. cut_vector k (repeated (suc times) w n)) p ∙ ap (λ k. cut_vector (k * w) (repeated k w n)) (sym e))
