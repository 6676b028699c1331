-- A rule at all numbers of given widths.
use Rattle.std.specs.Prelude.{ℕ, List}
use Rattle.lola_cases.specs.Cases.{AreWithin}
use Rattle.lola_cases.specs.Counting.{ComesBefore}

-- it holds at all of them
abbrev pub HoldsAlways : (List ℕ → Type 0) → List ℕ → Type 0
HoldsAlways Holds ws = (ns : List ℕ) → AreWithin ws ns → Holds ns

-- the least numbers at which it doesn't
pub record IsLeastFailing (Holds : List ℕ → Type 0) (ws ns : List ℕ) : Type 0 where
  pub within : AreWithin ws ns
  pub fails : Holds ns → ⊥
  pub least : (ms : List ℕ) → AreWithin ws ms → ComesBefore ms ns → Holds ms
