-- A case of a flat design: a number for all that a cycle leaves free. What it gives to the design, and that every table
-- which can be given is that of exactly one case.
use Rattle.std.specs.Prelude.{◌≡◌, ℕ, ◌<◌, ◌^◌, List, [], ◌∷◌, map, take, drop, get_or}
use Rattle.lola_bits.specs.Lists.{AreEach}
use Rattle.lola_flat.specs.declared.design.SigKind.{SigKind}
use Rattle.lola_flat.specs.declared.design.SigKind.TheVariants.{Input, Pad, Wire, Register}
use Rattle.lola_flat.specs.Tree.{SignalTree, FlatTree}
use Rattle.lola_flat.specs.Signals.{IsSignal}
use Rattle.lola_cases.specs.declared.free.FreeElement.{FreeElement}
use Rattle.lola_cases.specs.Free.{free_count, free_of, free_elements, free_widths}

-- a number for each width, below 2 to it
abbrev pub AreWithin : List ℕ → List ℕ → Type 0
AreWithin widths numbers = AreEach (λ (w n : ℕ). n < 2 ^ w) widths numbers

-- a case: a number for each free element
abbrev pub IsCase : FlatTree → List ℕ → Type 0
IsCase F numbers = AreWithin (free_widths F) numbers

-- of its share of the numbers a signal has its elements, and a pad what it is given from outside
abbrev pub elements_in : SigKind → List ℕ → List ℕ
elements_in Input share = share
elements_in Register share = share
elements_in Pad share = []
elements_in Wire share = []

abbrev pub outside_in : SigKind → List ℕ → ℕ
outside_in Pad share = get_or share 0 0
outside_in Input share = 0
outside_in Register share = 0
outside_in Wire share = 0

-- the numbers are dealt out to the signals in their order, to each as many as it has free
abbrev pub given_from : FlatTree → List SignalTree → List ℕ → List (List ℕ)
given_from F [] numbers = []
given_from F (s ∷ signals) numbers = elements_in s.kind (take (free_count F s) numbers) ∷ given_from F signals (drop (free_count F s) numbers)

abbrev pub outside_from : FlatTree → List SignalTree → List ℕ → List ℕ
outside_from F [] numbers = []
outside_from F (s ∷ signals) numbers = outside_in s.kind (take (free_count F s) numbers) ∷ outside_from F signals (drop (free_count F s) numbers)

-- what a case gives to the inputs and registers of a design, and to its pads from outside
abbrev pub given_of : FlatTree → List ℕ → List (List ℕ)
given_of F numbers = given_from F F.signals numbers

abbrev pub outside_of : FlatTree → List ℕ → List ℕ
outside_of F numbers = outside_from F F.signals numbers

-- two tables give the same to a signal: an input or register the same elements, a pad the same from outside
abbrev pub GiveSameTo : SigKind → List ℕ → List ℕ → ℕ → ℕ → Type 0
GiveSameTo Input elements others outside other = elements ≡ others
GiveSameTo Register elements others outside other = elements ≡ others
GiveSameTo Pad elements others outside other = outside ≡ other
GiveSameTo Wire elements others outside other = Unit {0}

-- they give the same to each signal; what stands in them for signals that are given nothing doesn't count
pub record GiveSame (F : FlatTree) (given : List (List ℕ)) (outside : List ℕ) (given_too : List (List ℕ)) (outside_too : List ℕ) : Type 0 where
  pub each : (n : ℕ) (s : SignalTree) → IsSignal F n s → GiveSameTo s.kind (get_or given n []) (get_or given_too n []) (get_or outside n 0) (get_or outside_too n 0)

-- tables give what exactly one case gives
pub record HasOneCase (F : FlatTree) (given : List (List ℕ)) (outside : List ℕ) : Type 0 where
  pub numbers : List ℕ
  pub is_case : IsCase F numbers
  pub same : GiveSame F given outside (given_of F numbers) (outside_of F numbers)
  pub only : (others : List ℕ) → IsCase F others → GiveSame F given outside (given_of F others) (outside_of F others) → others ≡ numbers

-- where each free element has a value, the case of these values gives each signal those of its own elements
pub record GivesValues (F : FlatTree) (value : FreeElement → ℕ) : Type 0 where
  pub given : (n : ℕ) (s : SignalTree) → IsSignal F n s → get_or (given_of F (map value (free_elements F))) n [] ≡ elements_in s.kind (map value (free_of F n s))
  pub outside : (n : ℕ) (s : SignalTree) → IsSignal F n s → get_or (outside_of F (map value (free_elements F))) n 0 ≡ outside_in s.kind (map value (free_of F n s))
