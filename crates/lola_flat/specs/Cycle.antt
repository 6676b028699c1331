-- One clock cycle of a flat design on numbers: its values, and what its registers hold afterwards. Values stand in
-- tables by the numbers of signals: a list of elements for each, which for a vector has one item.
use Rattle.std.specs.Prelude.{◌≡◌, ℕ, ◌<◌, ◌^◌, List, [], ◌∷◌, length, Option, Some, None, get_or}
use Rattle.std.specs.List.{AllByRecursion}
use Rattle.lola_alg.specs.Means.{with_number}
use Rattle.lola_flat.specs.declared.design.SigKind.{SigKind}
use Rattle.lola_flat.specs.declared.design.SigKind.TheVariants.{Input, Pad, Wire, Register}
use Rattle.lola_flat.specs.Tree.{ExprTree, SignalTree, FlatTree}
use Rattle.lola_flat.specs.Value.{Env, env, value}
use Rattle.lola_flat.specs.Signals.{IsSignal, widths_of, IsClock}

-- numbers are below 2 to the width of a signal, and there is one for each of its elements
abbrev pub AreBelow : SignalTree → List ℕ → Type 0
AreBelow s ns = AllByRecursion (λ n. n < 2 ^ s.width) ns

pub record HasValues (s : SignalTree) (ns : List ℕ) : Type 0 where
  pub count : length ns ≡ s.count
  pub below : AreBelow s ns

-- what a cycle is given: the values of each input but the clock, which has none, and of each register
abbrev pub IsGivenTo : FlatTree → SignalTree → SigKind → List ℕ → Type 0
IsGivenTo F s Input ns = AreBelow s ns × ((IsClock F s → ns ≡ []) × ((IsClock F s → ⊥) → length ns ≡ s.count))
IsGivenTo F s Register ns = HasValues s ns
IsGivenTo F s Pad ns = Unit {0}
IsGivenTo F s Wire ns = Unit {0}

pub record AreGiven (F : FlatTree) (given : List (List ℕ)) : Type 0 where
  pub long : length given ≡ length F.signals
  pub each : (n : ℕ) (s : SignalTree) → IsSignal F n s → IsGivenTo F s s.kind (get_or given n [])

-- and a value for each pad from outside
pub record AreOutside (F : FlatTree) (outside : List ℕ) : Type 0 where
  pub each : (n : ℕ) (s : SignalTree) → IsSignal F n s → s.kind ≡ Pad → get_or outside n 0 < 2 ^ s.width

-- what the values of a cycle have to be: inputs and registers have what is given, and wires and pads what their
-- equations give
abbrev pub IsValueOf : FlatTree → Env ℕ → SigKind → Option ExprTree → List ℕ → List ℕ → Type 0
IsValueOf F N Input equation given ns = ns ≡ given
IsValueOf F N Register equation given ns = ns ≡ given
IsValueOf F N Pad None given ns = ⊥
IsValueOf F N Pad (Some e) given ns = ns ≡ value (widths_of F) N e ∷ []
IsValueOf F N Wire None given ns = ⊥
IsValueOf F N Wire (Some e) given ns = ns ≡ value (widths_of F) N e ∷ []

-- the values of a cycle, which is given these values of inputs and registers and these from outside
pub record IsCycle (F : FlatTree) (given : List (List ℕ)) (outside : List ℕ) (N : List (List ℕ)) : Type 0 where
  pub long : length N ≡ length F.signals
  pub each : (n : ℕ) (s : SignalTree) → IsSignal F n s → IsValueOf F (env N outside) s.kind s.equation (get_or given n []) (get_or N n [])

-- the next value of a register: that of its equation; of an array the elements, where the one at the place becomes it
abbrev pub next_elements : Env ℕ → Env ℕ → Option ExprTree → Option ExprTree → List ℕ → List ℕ
next_elements W N None None old = old
next_elements W N (Some place) None old = old
next_elements W N None (Some e) old = value W N e ∷ []
next_elements W N (Some place) (Some e) old = with_number old (value W N place) (value W N e)

-- the state behind a cycle: each register has its next value, and for other signals nothing stands there
abbrev pub IsNextOf : SigKind → List ℕ → List ℕ → Type 0
IsNextOf Register next ns = ns ≡ next
IsNextOf Input next ns = ns ≡ []
IsNextOf Pad next ns = ns ≡ []
IsNextOf Wire next ns = ns ≡ []

-- registers read nothing from outside
pub record IsNext (F : FlatTree) (N after : List (List ℕ)) : Type 0 where
  pub long : length after ≡ length F.signals
  pub each : (n : ℕ) (s : SignalTree) → IsSignal F n s → IsNextOf s.kind (next_elements (widths_of F) (env N []) s.place s.equation (get_or N n [])) (get_or after n [])
