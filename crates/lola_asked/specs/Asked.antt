-- A check asked of a flat design in all cases of a setting.
use Rattle.std.specs.Prelude.{◌≡◌, ℕ, ◌<◌, ◌≤◌, ◌^◌, ◌-◌, min, false, List, Result, Ok, Err}
use Rattle.lola_flat.specs.Tree.{FlatTree}
use Rattle.lola_flat.specs.Value.{Env, env}
use Rattle.lola_flat.specs.Cycle.{IsCycle, IsNext}
use Rattle.lola_cases.specs.Cases.{given_of, outside_of}
use Rattle.lola_checks.specs.Tree.{CheckTree}
use Rattle.lola_checks.specs.Holds.{violated}
use Rattle.lola_asked.specs.declared.least.AskError.{AskError}
use Rattle.lola_asked.specs.declared.least.AskError.TheVariants as ask
use Rattle.lola_asked.specs.declared.setting.Setting.{Setting}
use Rattle.lola_asked.specs.Setting.{design_numbers, further_numbers, joined_tables, check_widths}

-- what stands in a check's tables in a case: the cycle, the state behind it, the further names, and what pads are given
abbrev pub check_numbers : FlatTree → Setting → List ℕ → List (List ℕ) → List (List ℕ) → Env ℕ
check_numbers F s ns N after = env (joined_tables N after (further_numbers F s ns)) (outside_of F (design_numbers F s ns))

-- a check isn't violated in a case, whose numbers are those of all that is free: it isn't in the cycle that the case
-- gives, with the state behind it
abbrev pub HoldsIn : FlatTree → Setting → CheckTree → List ℕ → Type 0
HoldsIn F s k ns =
    (N after : List (List ℕ)) → IsCycle F (given_of F (design_numbers F s ns)) (outside_of F (design_numbers F s ns)) N → IsNext F N after →
    violated (check_widths F s) (check_numbers F s ns N after) k ≡ false

-- more than 16 free bits are too many, and are counted as far as a number of 32 bits goes
abbrev pub BitsSuit : {T : Type 0} → ℕ → Result T AskError → Type 0
BitsSuit bits (Ok x) = bits ≤ 16
BitsSuit bits (Err (ask.TooManyBits count)) = (16 < bits) × (count ≡ min bits (2 ^ 32 - 1))
BitsSuit bits (Err ask.Memory) = Unit {0}
