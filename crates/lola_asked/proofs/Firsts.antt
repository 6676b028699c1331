-- The first case in which a check is violated, block after block, and what it says of the numbers that are free.
use Rattle.std.proofs.Common.{◌≡◌, ◌≢◌, ℕ, zero, suc, ◌+◌, ◌*◌, ◌-◌, ◌%◌, ◌^◌, ◌<◌, ◌≤◌, Bool, true, false, List, length, map, Option, Some, None, inl, inr, refl, sym, ap, ap₂, subst, ◌∙◌, arith}
use Rattle.std.specs.Prelude.{nat_eq}
use Rattle.std.specs.Int.{bit_at, trailing_zeros, w64}
use Rattle.std.proofs.lemmas.Nat.{pow_below}
use Rattle.std.proofs.lemmas.Nat.Bits.{bit_at-zero, bit_at-trailing_zeros}
use Rattle.std.proofs.lemmas.Bool.{cases_lt}
use Rattle.lola_bits.proofs.Tests.{not_both}
use Rattle.lola_flat.specs.Tree.{FlatTree}
use Rattle.lola_flat.specs.Value.{Env, env, sum_of, joined_all}
use Rattle.lola_flat.specs.Cycle.{IsCycle, IsNext}
use Rattle.lola_cases.specs.Cases.{AreWithin, given_of, outside_of}
use Rattle.lola_cases.specs.Counting.{numbers_of, ComesBefore, IsCounted, IsMet}
use Rattle.lola_cases.specs.Trial.{HoldsAlways, IsLeastFailing}
use Rattle.lola_lanes.specs.Lanes.{lane}
use Rattle.lola_checks.specs.Tree.{CheckTree}
use Rattle.lola_checks.specs.Holds.{violated}
use Rattle.lola_asked.specs.declared.bits.CaseBit.{CaseBit}
use Rattle.lola_asked.specs.declared.setting.Setting.{Setting}
use Rattle.lola_asked.specs.Setting.{setting_widths, free_bits, design_numbers, further_numbers, further_widths, joined_tables, widths_with, check_widths}
use Rattle.lola_asked.specs.Asked.{check_numbers, HoldsIn}
use Rattle.lola_asked.specs.Words.{numbers_in, further_in, AreTables, AreNumbersOf, IsViolatedIn, IsViolatedWord, IsFirstViolated}

module _ (F : FlatTree) (E : Env (List CaseBit)) (further : List (List (List CaseBit))) (k : CheckTree) where
  abbrev Passes : ℕ → Type 0
  Passes c = IsViolatedIn F E further k c false

  -- below a case of a block, where it is violated in none before
  before : (block w n : ℕ) → IsViolatedWord F E further k block w → ((c : ℕ) → c < 64 * block → Passes c) → n ≤ 64 → ((i : ℕ) → i < n → bit_at w i ≡ 0) → (c : ℕ) → c < 64 * block + n → Passes c
  before block w n is past inside none c below = elim (cases_lt c (64 * block)) [
    | inl p ↦ past c p
    | inr p ↦ (
        let at : 64 * block + (c - 64 * block) ≡ c = omega arith in
        let zero_there : lane (c - 64 * block) w ≡ false = ap (λ (d : ℕ). nat_eq d 1) (none (c - 64 * block) (omega arith)) in
        subst (λ (e : ℕ). IsViolatedIn F E further k e false) at (subst (λ (b : Bool). IsViolatedIn F E further k (64 * block + (c - 64 * block)) b) zero_there (is.each (c - 64 * block) (omega arith))))
  ]

  pub block_passes : (block w : ℕ) → IsViolatedWord F E further k block w → ((c : ℕ) → c < 64 * block → Passes c) → w ≡ 0 → (c : ℕ) → c < 64 * (block + 1) → Passes c
  block_passes block w is past none c below = before block w 64 is past (omega arith) (λ i inside. ap (λ (x : ℕ). bit_at x i) none ∙ bit_at-zero i) c (omega arith)

  pub block_fails : (block w t : ℕ) → IsViolatedWord F E further k block w → ((c : ℕ) → c < 64 * block → Passes c) → w ≢ 0 → t ≡ trailing_zeros w64 w →
      IsViolatedIn F E further k (64 * block + t) true × ((e : ℕ) → e < 64 * block + t → Passes e)
  block_fails block w t is past some at =
      let z = bit_at-trailing_zeros w64 w (positive w some) is.below in
      let inside : t < 64 = subst (λ (n : ℕ). n < 64) (sym at) z.0 in
      let one : bit_at w t ≡ 1 = ap (bit_at w) at ∙ z.1 in
      let set_there : lane t w ≡ true = ap (λ (d : ℕ). nat_eq d 1) one in (
        subst (λ (b : Bool). IsViolatedIn F E further k (64 * block + t) b) set_there (is.each t inside),
        before block w t is past (omega arith) (λ i p. z.2 i (subst (λ (n : ℕ). i < n) at p)),
      )
    where
      positive : (w : ℕ) → w ≢ 0 → 0 < w
      positive zero e = absurd (e refl)
      positive (suc w) e = omega arith

  -- where all blocks before pass, and they hold all cases
  pub none_first : (block cases : ℕ) → cases ≤ 64 * block → ((c : ℕ) → c < 64 * block → Passes c) → IsFirstViolated F E further k cases None
  none_first block cases past passes = λ c below. passes c (omega (arith, below, past))

  -- where a case fails, before which none does
  pub first_found : (case cases : ℕ) → IsViolatedIn F E further k case true → ((e : ℕ) → e < case → Passes e) → case < cases → IsFirstViolated F E further k cases (Some case)
  first_found case cases fails passes below = (below, (fails, passes))

  pub none_below : (case cases : ℕ) → ((e : ℕ) → e < case → Passes e) → cases ≤ case → IsFirstViolated F E further k cases None
  none_below case cases passes past = λ c below. passes c (omega (arith, below, past))

  -- the numbers of a setting
  module _ (s : Setting) (suits : AreTables F E further) (are : AreNumbersOf F s E further) (wide : map (map length) further ≡ further_widths s.further) where
    abbrev here : ℕ → List ℕ
    here c = numbers_of (setting_widths F s) c

    check_same : (c : ℕ) → c < 2 ^ free_bits F s → (so : Bool) → IsViolatedIn F E further k c so →
        (N after : List (List ℕ)) → IsCycle F (given_of F (design_numbers F s (here c))) (outside_of F (design_numbers F s (here c))) N → IsNext F N after →
        violated (check_widths F s) (check_numbers F s (here c) N after) k ≡ so
    check_same c inside so is N after cycle next =
        let cycle_in : IsCycle F (numbers_in E c).signals (numbers_in E c).outside N =
        subst (λ (o : List ℕ). IsCycle F (numbers_in E c).signals o N) (sym (are.outside c inside)) (subst (λ (g : List (List ℕ)). IsCycle F g (outside_of F (design_numbers F s (here c))) N) (sym (are.given c inside)) cycle) in
        ap₂ (λ (W : Env ℕ) (M : Env ℕ). violated W M k) (ap (widths_with F) (sym wide)) (sym (ap₂ env (ap (joined_tables N after) (are.more c inside)) (are.outside c inside))) ∙ is N after cycle_in next

    holds_at : (c : ℕ) → c < 2 ^ free_bits F s → Passes c → HoldsIn F s k (here c)
    holds_at c inside is = λ N after cycle next. check_same c inside false is N after cycle next

    fails_at : (c : ℕ) → c < 2 ^ free_bits F s → IsViolatedIn F E further k c true → HoldsIn F s k (here c) → ⊥
    fails_at c inside is holds =
        let one = suits.one c in
        let cycle : IsCycle F (given_of F (design_numbers F s (here c))) (outside_of F (design_numbers F s (here c))) one.values =
        subst (λ (o : List ℕ). IsCycle F (given_of F (design_numbers F s (here c))) o one.values) (are.outside c inside) (subst (λ (g : List (List ℕ)). IsCycle F g (numbers_in E c).outside one.values) (are.given c inside) one.cycle) in
        not_both (check_same c inside true is one.values one.behind cycle one.next) (holds one.values one.behind cycle one.next)

    -- what lola_cases says of counting
    module _ (counted : (ws : List ℕ) (n : ℕ) → n < 2 ^ sum_of ws → IsCounted ws n) (met : (ws ns : List ℕ) → AreWithin ws ns → IsMet ws ns)
        (order : (ws ms ns : List ℕ) → AreWithin ws ms → AreWithin ws ns → ComesBefore ms ns → joined_all ws ms < joined_all ws ns) where
      pub always : ((c : ℕ) → c < 2 ^ free_bits F s → Passes c) → HoldsAlways (HoldsIn F s k) (setting_widths F s)
      always passes ns within =
          let m = met (setting_widths F s) ns within in
          subst (HoldsIn F s k) m.there (holds_at (joined_all (setting_widths F s) ns) m.below (passes (joined_all (setting_widths F s) ns) m.below))

      pub least : (c : ℕ) (numbers : List ℕ) → numbers ≡ here c → c < 2 ^ free_bits F s → IsViolatedIn F E further k c true → ((e : ℕ) → e < c → Passes e) → IsLeastFailing (HoldsIn F s k) (setting_widths F s) numbers
      least c numbers made inside fails passes =
          let ws = setting_widths F s in
          let count = counted ws c inside in
          subst (IsLeastFailing (HoldsIn F s k) ws) (sym made) (record {
            within = count.within;
            fails = fails_at c inside fails;
            least = λ ms within comes.
                let m = met ws ms within in
                let less : joined_all ws ms < c = subst (λ (n : ℕ). joined_all ws ms < n) count.back (order ws ms (here c) within count.within comes) in
                subst (HoldsIn F s k) m.there (holds_at (joined_all ws ms) m.below (passes (joined_all ws ms) less));
          })

-- the code's shift of 1
pub shl_one : (k : ℕ) → k ≤ 16 → 1 * 2 ^ k % 18446744073709551616 ≡ 2 ^ k
shl_one k small = let p : 2 ^ k < 2 ^ 64 = pow_below k 64 (omega arith) in omega arith
