-- Which types well sized designs have: each signal has one, what an expression reads has the type that its module
-- takes it for, and what an equation or an update gives has the width of its signal.
use Rattle.std.specs.Prelude.{◌≡◌, ◌≢◌, ℕ, ◌++◌, Option, Some, None}
use Rattle.lola_bits.specs.Lists.{IsIn}
use Rattle.lola_tree.specs.declared.named.Ref.{Ref}
use Rattle.lola_tree.specs.declared.named.Shape.{Shape}
use Rattle.lola_tree.specs.declared.named.Shape.TheVariants as shape
use Rattle.lola_tree.specs.Tree.{Tree, ActualTree, ModuleTree, SourceTree}
use Rattle.lola_tree.specs.Names.{Names}
use Rattle.lola_tree.specs.Width.{width, vector_width, element_width, elements_width, scope_of}
use Rattle.lola_tree.specs.Value.{Path}
use Rattle.lola_tree.specs.design.Signals.{Kind, clock, register, pad, Signal, signals}
use Rattle.lola_tree.specs.design.Equations.{Right, expression, copied, driven, Equation, Update, updates}
use Rattle.lola_tree.specs.design.Cycle.{IsSignal}
use Rattle.lola_tree.specs.design.Chains.{names_in, arrays_in, flat_equations}
use Rattle.lola_design.specs.Regular.{IsVector, IsArray}

-- a type has a width, and an array has as many elements as places of some width tell apart
abbrev pub HasWidth : Names → Shape → Type 0
HasWidth names (shape.Vector width) = (w : ℕ) × (vector_width names (Some (shape.Vector width)) ≡ Some w)
HasWidth names (shape.Array count width) =
    (w : ℕ) × (k : ℕ) × (element_width names (Some (shape.Array count width)) ≡ Some w) × (elements_width names (Some (shape.Array count width)) ≡ Some k)

-- a name of a module at a path is a vector of the design, of the width that the module takes it for
pub record IsVectorRead (S : SourceTree) (m : ModuleTree) (p : Path) (r : Ref) : Type 0 where
  pub signal : Signal
  pub there : IsIn signal (signals S)
  pub no_clock : signal.kind ≢ clock
  pub vector : IsVector signal.type
  pub path_is : signal.path ≡ p ++ r.path
  pub wide : (scope_of m).width r ≡ vector_width signal.names (Some signal.type)

-- and one that is read at a place is an array of registers
pub record IsArrayRead (S : SourceTree) (m : ModuleTree) (p : Path) (r : Ref) : Type 0 where
  pub signal : Signal
  pub there : IsSignal S register signal
  pub array : IsArray signal.type
  pub path_is : signal.path ≡ p ++ r.path
  pub wide : (scope_of m).element r ≡ element_width signal.names (Some signal.type)
  pub places : (scope_of m).place r ≡ elements_width signal.names (Some signal.type)

-- so is what an expression reads
pub record IsTyped (S : SourceTree) (m : ModuleTree) (p : Path) (e : Tree) : Type 0 where
  pub vectors : (r : Ref) → IsIn r (names_in (scope_of m) e) → IsVectorRead S m p r
  pub arrays : (r : Ref) → IsIn r (arrays_in e) → IsArrayRead S m p r

-- a signal has a path, and is a vector of this width
pub record IsOfWidth (S : SourceTree) (w : ℕ) (path : Path) : Type 0 where
  pub signal : Signal
  pub there : IsIn signal (signals S)
  pub no_clock : signal.kind ≢ clock
  pub vector : IsVector signal.type
  pub path_is : signal.path ≡ path
  pub wide : vector_width signal.names (Some signal.type) ≡ Some w

-- a pad of the root has a path, and is a vector of this width
pub record IsPadOf (S : SourceTree) (w : ℕ) (path : Path) : Type 0 where
  pub signal : Signal
  pub there : IsSignal S pad signal
  pub vector : IsVector signal.type
  pub path_is : signal.path ≡ path
  pub wide : vector_width signal.names (Some signal.type) ≡ Some w

-- what an equation gives has this width
abbrev pub RightHasWidth : SourceTree → ℕ → Right → Type 0
RightHasWidth S w (expression m p e) = IsTyped S m p e × (width (scope_of m) e ≡ Some w)
RightHasWidth S w (copied other) = IsOfWidth S w other
RightHasWidth S w (driven m p drive release io) =
    IsPadOf S w io × IsTyped S m p release × (width (scope_of m) release ≡ Some 1) × IsTyped S m p drive × (width (scope_of m) drive ≡ Some w)

-- an update of a register sets the whole of a vector, or the element of an array at a place
abbrev pub SetsWidth : SourceTree → ModuleTree → Path → Names → Shape → Option ActualTree → Tree → Type 0
SetsWidth S m p names (shape.Vector count) None e = IsTyped S m p e × (width (scope_of m) e ≡ vector_width names (Some (shape.Vector count)))
SetsWidth S m p names (shape.Vector count) (Some place) e = ⊥
SetsWidth S m p names (shape.Array number count) None e = ⊥
SetsWidth S m p names (shape.Array number count) (Some place) e =
    IsTyped S m p e × (width (scope_of m) e ≡ element_width names (Some (shape.Array number count)))
    × IsTyped S m p place.value × (width (scope_of m) place.value ≡ elements_width names (Some (shape.Array number count)))

-- a pad of the root is driven by a statement, and nothing else is
abbrev pub DrivesKind : Kind → Right → Type 0
DrivesKind pad (expression m p e) = ⊥
DrivesKind pad (copied other) = ⊥
DrivesKind pad (driven m p drive release io) = Unit {0}
DrivesKind other (expression m p e) = Unit {0}
DrivesKind other (copied from) = Unit {0}
DrivesKind other (driven m p drive release io) = ⊥

pub record AreTyped (S : SourceTree) : Type 0 where
  pub signals_have : (x : Signal) → IsIn x (signals S) → HasWidth x.names x.type
  pub equations_have : (e : Equation) → IsIn e (flat_equations S) → (x : Signal) → IsIn x (signals S) → x.path ≡ e.left →
      (w : ℕ) × (vector_width x.names (Some x.type) ≡ Some w) × RightHasWidth S w e.right × DrivesKind x.kind e.right
  pub updates_have : (u : Update) → IsIn u (updates S) → (x : Signal) → IsIn x (signals S) → x.path ≡ u.left → SetsWidth S u.module_ u.path x.names x.type u.place u.value

-- a design with registers has a clock, and any clock is one and the same port of one bit
pub record ClockFits (S : SourceTree) : Type 0 where
  pub wide : (x : Signal) → IsSignal S clock x → vector_width x.names (Some x.type) ≡ Some 1
  pub one : (x y : Signal) → IsSignal S clock x → IsSignal S clock y → x ≡ y
  pub there : (x : Signal) → IsSignal S register x → (y : Signal) × IsSignal S clock y
