-- Words of 64 cases: of bits, of all that stands in a check's tables in the cases of a block, and of a check.
use Rattle.std.specs.Prelude.{◌≡◌, ℕ, ◌+◌, ◌*◌, ◌<◌, ◌^◌, Bool, true, false, List, [], map, length, get_or, Option, Some, None}
use Rattle.std.specs.List.{AllByRecursion}
use Rattle.lola_bits.specs.Lists.{AreEach}
use Rattle.lola_flat.specs.Tree.{SignalTree, FlatTree}
use Rattle.lola_flat.specs.Value.{Env, env, mapped}
use Rattle.lola_flat.specs.Signals.{IsSignal, IsClock}
use Rattle.lola_flat.specs.Cycle.{IsCycle, IsNext}
use Rattle.lola_eval.specs.Means.{AreGivenBits, EnvKnown, numbers}
use Rattle.lola_eval.specs.OneCycle.{HasOneCycle}
use Rattle.lola_cases.specs.Bits.{outside_width}
use Rattle.lola_cases.specs.Cases.{given_of, outside_of}
use Rattle.lola_cases.specs.Counting.{numbers_of}
use Rattle.lola_lanes.specs.Lanes.{lane, assigned, lane_meaning, IsWordOf}
use Rattle.lola_checks.specs.Tree.{CheckTree}
use Rattle.lola_checks.specs.Holds.{violated}
use Rattle.lola_asked.specs.declared.bits.CaseBit.{CaseBit}
use Rattle.lola_asked.specs.declared.block.BlockWords.{BlockWords}
use Rattle.lola_asked.specs.declared.setting.Setting.{Setting}
use Rattle.lola_asked.specs.Setting.{setting_widths, free_bits, design_numbers, further_numbers, joined_tables, widths_with}
use Rattle.lola_asked.specs.CaseBits.{bit_in, number_in_case, IsSmall}

-- the word of a bit in a block, and so those of vectors, of rows and of tables
abbrev pub IsWord : ℕ → CaseBit → ℕ → Type 0
IsWord block b w = IsWordOf (λ c. bit_in c b) block w

abbrev pub AreWords : ℕ → List CaseBit → List ℕ → Type 0
AreWords block bits words = AreEach (IsWord block) bits words

abbrev pub AreRowWords : ℕ → List (List CaseBit) → List (List ℕ) → Type 0
AreRowWords block row words = AreEach (AreWords block) row words

abbrev pub AreTableWords : ℕ → List (List (List CaseBit)) → List (List (List ℕ)) → Type 0
AreTableWords block table words = AreEach (AreRowWords block) table words

-- the numbers in a case
abbrev pub numbers_in : Env (List CaseBit) → ℕ → Env ℕ
numbers_in E c = mapped (number_in_case c) E

abbrev pub further_in : List (List (List CaseBit)) → ℕ → List (List ℕ)
further_in further c = map (map (number_in_case c)) further

-- tables of bits suit a design: its places are small, its vectors have the widths of what a cycle is given, the clock is
-- given nothing, and in each case there is exactly one cycle
pub record AreTables (F : FlatTree) (E : Env (List CaseBit)) (further : List (List (List CaseBit))) : Type 0 where
  pub small : AllByRecursion (AllByRecursion (AllByRecursion IsSmall)) E.signals
  pub small_outside : AllByRecursion (AllByRecursion IsSmall) E.outside
  pub small_further : AllByRecursion (AllByRecursion (AllByRecursion IsSmall)) further
  pub given : AreGivenBits F E
  pub clock : (n : ℕ) (s : SignalTree) → IsSignal F n s → IsClock F s → get_or E.signals n [] ≡ []
  pub outside : map length E.outside ≡ map (λ (t : SignalTree). outside_width t.kind t.width) F.signals
  pub one : (c : ℕ) → HasOneCycle F (numbers_in E c).signals (numbers_in E c).outside

-- in the cases of a setting they have its numbers
pub record AreNumbersOf (F : FlatTree) (s : Setting) (E : Env (List CaseBit)) (further : List (List (List CaseBit))) : Type 0 where
  pub given : (c : ℕ) → c < 2 ^ free_bits F s → (numbers_in E c).signals ≡ given_of F (design_numbers F s (numbers_of (setting_widths F s) c))
  pub outside : (c : ℕ) → c < 2 ^ free_bits F s → (numbers_in E c).outside ≡ outside_of F (design_numbers F s (numbers_of (setting_widths F s) c))
  pub more : (c : ℕ) → c < 2 ^ free_bits F s → further_in further c ≡ further_numbers F s (numbers_of (setting_widths F s) c)

-- what stands in a check's tables in a case, whatever its cycle is
abbrev pub IsInCase : FlatTree → Env (List CaseBit) → List (List (List CaseBit)) → ℕ → Env ℕ → Type 0
IsInCase F E further c M =
    (N after : List (List ℕ)) → IsCycle F (numbers_in E c).signals (numbers_in E c).outside N → IsNext F N after →
    M ≡ env (joined_tables N after (further_in further c)) (numbers_in E c).outside

-- words are those of a check's tables in a block
pub record AreBlockWords (F : FlatTree) (E : Env (List CaseBit)) (further : List (List (List CaseBit))) (block : ℕ) (made : BlockWords) : Type 0 where
  pub known : EnvKnown lane_meaning tt (env made.signals.items made.outside.items)
  pub widths : mapped length (env made.signals.items made.outside.items) ≡ widths_with F (map (map length) further)
  pub each : (n : ℕ) → n < 64 → IsInCase F E further (64 * block + n) (numbers lane_meaning tt (assigned n) (env made.signals.items made.outside.items))

-- whether a check is violated in a case, whatever its cycle is
abbrev pub IsViolatedIn : FlatTree → Env (List CaseBit) → List (List (List CaseBit)) → CheckTree → ℕ → Bool → Type 0
IsViolatedIn F E further k c so =
    (N after : List (List ℕ)) → IsCycle F (numbers_in E c).signals (numbers_in E c).outside N → IsNext F N after →
    violated (widths_with F (map (map length) further)) (env (joined_tables N after (further_in further c)) (numbers_in E c).outside) k ≡ so

-- a word says in which cases of a block it is
pub record IsViolatedWord (F : FlatTree) (E : Env (List CaseBit)) (further : List (List (List CaseBit))) (k : CheckTree) (block w : ℕ) : Type 0 where
  pub below : w < 2 ^ 64
  pub each : (n : ℕ) → n < 64 → IsViolatedIn F E further k (64 * block + n) (lane n w)

-- the least case below a count in which a check is violated, or there is none
abbrev pub IsFirstViolated : FlatTree → Env (List CaseBit) → List (List (List CaseBit)) → CheckTree → ℕ → Option ℕ → Type 0
IsFirstViolated F E further k count None = (c : ℕ) → c < count → IsViolatedIn F E further k c false
IsFirstViolated F E further k count (Some c) = (c < count) × (IsViolatedIn F E further k c true × ((e : ℕ) → e < c → IsViolatedIn F E further k e false))
