-- Which flat designs are well formed.
use Rattle.std.specs.Prelude.{◌≡◌, ◌≢◌, ◌⊎◌, ℕ, ◌≤◌, ◌^◌, List, [], ◌∷◌, ◌++◌, map, length, Option, Some, None, IsSome, IsNone, IfSome}
use Rattle.std.specs.List.{AllByRecursion}
use Rattle.lola_bits.specs.declared.op.Op.TheVariants as op
use Rattle.lola_alg.specs.Means.{IsWidth}
use Rattle.lola_flat.specs.declared.design.SigKind.{SigKind}
use Rattle.lola_flat.specs.declared.design.SigKind.TheVariants.{Input, Pad, Wire, Register}
use Rattle.lola_bits.specs.Lists.{IsIn, AreDistinct}
use Rattle.lola_flat.specs.Numbers.{first_numbers}
use Rattle.lola_flat.specs.Tree.{ExprTree, from_outside, apply, no_expr, one_expr, SignalTree, FlatTree}
use Rattle.lola_flat.specs.Value.{width, Fits, sum_of, Read, vector_of, array_of, outside_of, reads}
use Rattle.lola_flat.specs.Signals.{IsSignal, widths_of, expressions, number_read}

-- the signal at a number is one of this kind
abbrev pub IsKind : FlatTree → ℕ → SigKind → Type 0
IsKind F n kind = (s : SignalTree) × (IsSignal F n s × (s.kind ≡ kind))

-- the clock is a port and an input of one bit, whose path is its name alone, and that no equation or place uses
pub record HasClock (F : FlatTree) (name : List ℕ) : Type 0 where
  pub number : ℕ
  pub signal : SignalTree
  pub is : IsSignal F number signal
  pub port : IsIn number F.ports
  pub kind : signal.kind ≡ Input
  pub width : signal.width ≡ 1
  pub path : signal.path ≡ name ∷ []
  pub unused : (n : ℕ) (s : SignalTree) → IsSignal F n s → (e : ExprTree) → IsIn e (expressions s) → IsIn number (map number_read (reads e)) → ⊥

-- how many elements a signal has: one, but a register with a place is an array, which has a power of two from 2 to 1,024
abbrev pub CountFits : SigKind → Option ExprTree → ℕ → Type 0
CountFits kind None count = count ≡ 1
CountFits kind (Some place) count = (kind ≡ Register) × ((k : ℕ) × ((1 ≤ k) × ((k ≤ 10) × (count ≡ 2 ^ k))))

-- inputs have no equation, and each other signal has one
abbrev pub EquationFits : SigKind → Option ExprTree → Type 0
EquationFits Input equation = IsNone equation
EquationFits Pad equation = IsSome equation
EquationFits Wire equation = IsSome equation
EquationFits Register equation = IsSome equation

-- only what is no array is read whole, only arrays are read at a place, and only pads have an outside value
abbrev pub ReadFits : FlatTree → Read → Type 0
ReadFits F (vector_of n) = (s : SignalTree) × (IsSignal F n s × IsNone s.place)
ReadFits F (array_of n) = (s : SignalTree) × (IsSignal F n s × IsSome s.place)
ReadFits F (outside_of n) = IsKind F n Pad

-- nothing from outside is read
abbrev pub NotOutside : Read → Type 0
NotOutside (vector_of n) = Unit {0}
NotOutside (array_of n) = Unit {0}
NotOutside (outside_of n) = ⊥

-- a pad carries its outside value where its release is 1, and else its value
pub record IsPadEquation (n : ℕ) (e : ExprTree) : Type 0 where
  pub release : ExprTree
  pub value : ExprTree
  pub is : e ≡ apply op.Mux (one_expr release (one_expr (from_outside n) (one_expr value no_expr)))
  pub release_inside : AllByRecursion NotOutside (reads release)
  pub value_inside : AllByRecursion NotOutside (reads value)

-- what stands in the expressions of a signal: outside values in the equation of their own pad alone
abbrev pub OutsideFits : ℕ → SigKind → SignalTree → Type 0
OutsideFits n Pad s = IfSome s.equation (IsPadEquation n)
OutsideFits n Input s = (e : ExprTree) → IsIn e (expressions s) → AllByRecursion NotOutside (reads e)
OutsideFits n Wire s = (e : ExprTree) → IsIn e (expressions s) → AllByRecursion NotOutside (reads e)
OutsideFits n Register s = (e : ExprTree) → IsIn e (expressions s) → AllByRecursion NotOutside (reads e)

-- an equation has the signal's width, and a place k bits where the array has 2 to k elements
pub record EquationSuits (F : FlatTree) (s : SignalTree) (e : ExprTree) : Type 0 where
  pub fits : Fits (widths_of F) e
  pub width : width (widths_of F) e ≡ s.width

pub record PlaceSuits (F : FlatTree) (s : SignalTree) (e : ExprTree) : Type 0 where
  pub fits : Fits (widths_of F) e
  pub places : (1 ≤ width (widths_of F) e) × (width (widths_of F) e ≤ 10)
  pub count : s.count ≡ 2 ^ width (widths_of F) e

-- a signal by its number
pub record IsFormedSignal (F : FlatTree) (n : ℕ) (s : SignalTree) : Type 0 where
  pub named : s.path ≢ []
  pub inputs_are_ports : s.kind ≡ Input → IsIn n F.ports
  pub pads_are_ports : s.kind ≡ Pad → IsIn n F.ports
  pub registers_are_no_ports : s.kind ≡ Register → IsIn n F.ports → ⊥
  pub registers_have_a_clock : s.kind ≡ Register → IsSome F.clock
  pub equation : EquationFits s.kind s.equation
  pub count : CountFits s.kind s.place s.count
  pub reads : (e : ExprTree) → IsIn e (expressions s) → AllByRecursion (ReadFits F) (reads e)
  pub outside : OutsideFits n s.kind s
  pub wide : IsWidth s.width
  pub equation_suits : IfSome s.equation (EquationSuits F s)
  pub place_suits : IfSome s.place (PlaceSuits F s)

-- what an equation may read: inputs, registers and what stands before it in the order, and an outside value, which is
-- no use of a signal
abbrev pub IsReadyBehind : FlatTree → List ℕ → Read → Type 0
IsReadyBehind F before (vector_of n) = IsKind F n Input ⊎ (IsKind F n Register ⊎ IsIn n before)
IsReadyBehind F before (array_of n) = IsKind F n Register
IsReadyBehind F before (outside_of n) = Unit {0}

-- the order has each wire and pad once and nothing else, and each equation reads what is ready before it
pub record IsOrdered (F : FlatTree) : Type 0 where
  pub once : AreDistinct F.order
  pub only : (n : ℕ) → IsIn n F.order → IsKind F n Wire ⊎ IsKind F n Pad
  pub wires : (n : ℕ) → IsKind F n Wire → IsIn n F.order
  pub pads : (n : ℕ) → IsKind F n Pad → IsIn n F.order
  pub uses : (before after : List ℕ) (n : ℕ) (s : SignalTree) → F.order ≡ before ++ n ∷ after → IsSignal F n s →
      IfSome s.equation (λ e. AllByRecursion (IsReadyBehind F before) (reads e))

-- a flat design is well formed
pub record IsFormed (F : FlatTree) : Type 0 where
  pub ports : F.ports ≡ first_numbers (length F.ports)
  pub ports_are_signals : length F.ports ≤ length F.signals
  pub paths : AreDistinct (map (λ (s : SignalTree). s.path) F.signals)
  pub clock : IfSome F.clock (HasClock F)
  pub signals : (n : ℕ) (s : SignalTree) → IsSignal F n s → IsFormedSignal F n s
  pub order : IsOrdered F
  pub few : sum_of (map (λ (s : SignalTree). s.count) F.signals) ≤ 65536
