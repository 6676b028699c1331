-- How far one number is above another, digit by digit.
use Rattle.std.specs.Prelude.{◌≡◌, ◌<◌, ℕ, suc, ◌-◌, List, length, take}
use Rattle.veri_read.specs.declared.bits.Gap.{Gap}
use Rattle.veri_read.specs.declared.bits.Gap.TheVariants as gap
use Rattle.veri_read.specs.Bits.{number_of}

abbrev pub IsGap : Gap → ℕ → ℕ → Type 0
IsGap gap.Below a b = a < b
IsGap gap.Same a b = a ≡ b
IsGap gap.One a b = a ≡ suc b
IsGap gap.More a b = suc b < a

-- the number of the digits in the first of so many places, where digits stand in the last ones
abbrev pub front_number : ℕ → ℕ → List ℕ → ℕ
front_number place places digits = number_of (take (place - (places - length digits)) digits)
