-- One clock cycle of a design: which valuations satisfy its equations, and its next state. Signals are
-- known by their paths. So far a design is its root; instances, pads and arrays add cases.
use Rattle.std.specs.Prelude.{◌≡◌, ℕ, ◌^◌, ◌<◌, List, [], ◌∷◌, ◌++◌, length, zero, suc, Option, Some, None}
use Rattle.lola_bits.specs.Lists.{IsIn}
use Rattle.lola_tree.specs.declared.named.Named.{Named}
use Rattle.lola_tree.specs.declared.named.Ref.{Ref}
use Rattle.lola_tree.specs.declared.named.Shape.{Shape}
use Rattle.lola_tree.specs.declared.module.Way.TheVariants.{Inward}
use Rattle.lola_tree.specs.declared.module.Port.{Port}
use Rattle.lola_tree.specs.declared.module.LocalKind.TheVariants.{Reg}
use Rattle.lola_tree.specs.declared.module.Local.{Local}
use Rattle.lola_tree.specs.Tree.{StmtTree, assignment, call, pad, ModuleTree, SourceTree}
use Rattle.lola_tree.specs.Names.{Names, names_of}
use Rattle.lola_tree.specs.Width.{vector_width, scope_of}
use Rattle.lola_tree.specs.Value.{Path, Values, value}

-- the last module is the root
abbrev pub IsRoot : SourceTree → ModuleTree → Type 0
IsRoot S m = (before : List ModuleTree) × (S.modules ≡ before ++ m ∷ [])

-- a register of a module, under its clock and with its type
pub record IsRegisterOf (m : ModuleTree) (name clock : List ℕ) (type : Shape) : Type 0 where
  pub local : Local
  pub under : Named
  pub declared : IsIn local m.locals
  pub kind : local.kind ≡ Reg under type
  pub named : name ≡ local.name
  pub clocked : clock ≡ under.name

-- the path leads to a register of this type
pub record IsRegister (S : SourceTree) (path : Path) (type : Shape) : Type 0 where
  pub root : ModuleTree
  pub is_root : IsRoot S root
  pub name : List ℕ
  pub clock : List ℕ
  pub register : IsRegisterOf root name clock type
  pub leads : path ≡ name ∷ []

-- an IN port of a module that clocks no register
pub record IsInputOf (m : ModuleTree) (name : List ℕ) (type : Shape) : Type 0 where
  pub port : Port
  pub declared : IsIn port m.ports
  pub inward : port.way ≡ Inward
  pub named : name ≡ port.name
  pub typed : type ≡ port.shape
  pub no_clock : (register : List ℕ) (other : Shape) → IsRegisterOf m register name other → ⊥

-- the path leads to an IN port of the root but the clock
pub record IsInput (S : SourceTree) (path : Path) (type : Shape) : Type 0 where
  pub root : ModuleTree
  pub is_root : IsRoot S root
  pub name : List ℕ
  pub input : IsInputOf root name type
  pub leads : path ≡ name ∷ []

-- a number is below 2 to a width, where there is one
abbrev pub FitsIn : Option ℕ → ℕ → Type 0
FitsIn None n = Unit {0}
FitsIn (Some width) n = n < 2 ^ width

-- a number is a vector of a type, whose counts a module's names give
abbrev pub Suits : Names → Shape → ℕ → Type 0
Suits names type n = FitsIn (vector_width names (Some type)) n

-- a state gives each register a value of its type
abbrev pub IsState : SourceTree → Values → Type 0
IsState S s = (root : ModuleTree) → IsRoot S root → (path : Path) (type : Shape) → IsRegister S path type → Suits (names_of root) type (s path 0)

-- an input gives each IN port but the clock a value of its type
abbrev pub IsGiven : SourceTree → Values → Type 0
IsGiven S inp = (root : ModuleTree) → IsRoot S root → (path : Path) (type : Shape) → IsInput S path type → Suits (names_of root) type (inp path 0)

-- the values of the names that are seen from an instance
abbrev pub names_at : Path → Values → Ref → ℕ → ℕ
names_at p v r = v (p ++ r.path)

-- a statement's equation: what isn't a register has its assignment's value in the same cycle
abbrev pub Equation : ModuleTree → Path → Values → StmtTree → Type 0
Equation m p v (assignment name place e at equals) =
    ((clock : List ℕ) (type : Shape) → IsRegisterOf m name clock type → ⊥) → v (p ++ name ∷ []) 0 ≡ value (scope_of m) e (names_at p v)
Equation m p v (call name args at) = Unit {0}
Equation m p v (pad io inner drive release at) = Unit {0}

-- a valuation satisfies the design's equations
abbrev pub Holds : SourceTree → Values → Type 0
Holds S v = (m : ModuleTree) → IsRoot S m → (t : StmtTree) → IsIn t m.body → Equation m [] v t

-- a cycle from a state under an input: a valuation that satisfies the equations and agrees with both
pub record Cycle (S : SourceTree) (s inp v : Values) : Type 0 where
  pub holds : Holds S v
  pub registers : (path : Path) (type : Shape) → IsRegister S path type → v path 0 ≡ s path 0
  pub inputs : (path : Path) (type : Shape) → IsInput S path type → v path 0 ≡ inp path 0

-- what a statement says of the next state: a register has its assignment's value of this cycle
abbrev pub NextBy : ModuleTree → Path → Values → Values → StmtTree → Type 0
NextBy m p v s' (assignment name place e at equals) =
    (clock : List ℕ) (type : Shape) → IsRegisterOf m name clock type → s' (p ++ name ∷ []) 0 ≡ value (scope_of m) e (names_at p v)
NextBy m p v s' (call name args at) = Unit {0}
NextBy m p v s' (pad io inner drive release at) = Unit {0}

-- the state behind a cycle
abbrev pub Next : SourceTree → Values → Values → Type 0
Next S v s' = (m : ModuleTree) → IsRoot S m → (t : StmtTree) → IsIn t m.body → NextBy m [] v s' t

-- the input of a cycle, by its number
abbrev pub input_at : List Values → ℕ → Values
input_at [] c path n = 0
input_at (inp ∷ inputs) zero path n = inp path n
input_at (inp ∷ inputs) (suc c) path n = input_at inputs c path n

-- a run: from state to state, a cycle for each input
pub record Run (S : SourceTree) (inputs : List Values) (s v : ℕ → Values) : Type 0 where
  pub cycle : (c : ℕ) → c < length inputs → Cycle S (s c) (input_at inputs c) (v c)
  pub next : (c : ℕ) → c < length inputs → Next S (v c) (s (suc c))
