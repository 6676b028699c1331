-- One clock cycle of a design, its next state, and runs from cycle to cycle.
use Rattle.std.specs.Prelude.{◌≡◌, ◌≢◌, ℕ, suc, ◌<◌, cond, nat_eq, List, length, Option, Some, None}
use Rattle.lola_tree.specs.declared.named.Shape.{Shape}
use Rattle.lola_tree.specs.declared.named.Shape.TheVariants as shape
use Rattle.lola_tree.specs.Tree.{Tree, ActualTree, ModuleTree, SourceTree}
use Rattle.lola_tree.specs.Names.{Names}
use Rattle.lola_tree.specs.Width.{vector_width, element_width, scope_of}
use Rattle.lola_tree.specs.Value.{Path, Values, value}
use Rattle.lola_bits.specs.Lists.{IsIn}
use Rattle.lola_tree.specs.Cycle.{names_at, FitsIn, input_at}
use Rattle.lola_tree.specs.design.Signals.{Kind, clock, input, pad, register, Signal, signals, elements}
use Rattle.lola_tree.specs.design.Equations.{Holds, Update, updates}

-- a signal of a design, of some kind
abbrev pub IsSignal : SourceTree → Kind → Signal → Type 0
IsSignal S kind x = IsIn x (signals S) × (x.kind ≡ kind)

-- a value is of a type, whose counts a module's names give: a vector of its width, or of an array each element
abbrev pub Suits : Names → Shape → (ℕ → ℕ) → Type 0
Suits names (shape.Vector width) x = FitsIn (vector_width names (Some (shape.Vector width))) (x 0)
Suits names (shape.Array count width) x =
    (n : ℕ) → n < elements names (shape.Array count width) → FitsIn (element_width names (Some (shape.Array count width))) (x n)

-- two values of a type are the same: of a vector, or of an array element by element
abbrev pub AreSame : Names → Shape → (ℕ → ℕ) → (ℕ → ℕ) → Type 0
AreSame names (shape.Vector width) x y = x 0 ≡ y 0
AreSame names (shape.Array count width) x y = (n : ℕ) → n < elements names (shape.Array count width) → x n ≡ y n

-- a state gives each register a value of its type
abbrev pub IsState : SourceTree → Values → Type 0
IsState S s = (x : Signal) → IsSignal S register x → Suits x.names x.type (s x.path)

-- an input gives each IN port of the root but the clock a value of its type, and each pad of the root one from
-- outside
pub record IsGiven (S : SourceTree) (inp : Values) : Type 0 where
  pub inputs : (x : Signal) → IsSignal S input x → Suits x.names x.type (inp x.path)
  pub pads : (x : Signal) → IsSignal S pad x → Suits x.names x.type (inp x.path)

-- a cycle from a state under an input: a valuation that satisfies the equations and agrees with both
pub record Cycle (S : SourceTree) (s inp v : Values) : Type 0 where
  pub holds : Holds S inp v
  pub registers : (x : Signal) → IsSignal S register x → AreSame x.names x.type (v x.path) (s x.path)
  pub inputs : (x : Signal) → IsSignal S input x → AreSame x.names x.type (v x.path) (inp x.path)

-- what an update says of the next state: a register has the assigned value of this cycle; an array has it at
-- the place, and every other element is as before
abbrev pub Sets : ModuleTree → Path → Values → (old new : ℕ → ℕ) → Option ActualTree → Tree → Type 0
Sets m p v old new None e = new 0 ≡ value (scope_of m) e (names_at p v)
Sets m p v old new (Some place) e =
    (n : ℕ) → new n ≡ cond (nat_eq n (value (scope_of m) place.value (names_at p v))) (value (scope_of m) e (names_at p v)) (old n)

-- the state behind a cycle
abbrev pub Next : SourceTree → Values → Values → Type 0
Next S v s' = (u : Update) → IsIn u (updates S) → Sets u.module_ u.path v (v u.left) (s' u.left) u.place u.value

-- a run: from state to state, a cycle for each input
pub record Run (S : SourceTree) (inputs : List Values) (s v : ℕ → Values) : Type 0 where
  pub cycle : (c : ℕ) → c < length inputs → Cycle S (s c) (input_at inputs c) (v c)
  pub next : (c : ℕ) → c < length inputs → Next S (v c) (s (suc c))

-- a state and an input have one cycle: there is one, its signals but the clock have values of their types, and any
-- two agree on them. Behind a cycle there is a state, and what stands behind any two is one and the same, and a state
pub record HasOneCycle (S : SourceTree) (s inp : Values) : Type 0 where
  pub cycle : (v : Values) × Cycle S s inp v
  pub same : (v w : Values) → Cycle S s inp v → Cycle S s inp w → (x : Signal) → IsIn x (signals S) → x.kind ≢ clock → AreSame x.names x.type (v x.path) (w x.path)
  pub fits : (v : Values) → Cycle S s inp v → (x : Signal) → IsIn x (signals S) → x.kind ≢ clock → Suits x.names x.type (v x.path)
  pub next : (v : Values) → Cycle S s inp v → (s' : Values) × Next S v s'
  pub same_next : (v w s' t' : Values) → Cycle S s inp v → Cycle S s inp w → Next S v s' → Next S w t' →
      (x : Signal) → IsSignal S register x → AreSame x.names x.type (s' x.path) (t' x.path)
  pub state : (v s' : Values) → Cycle S s inp v → Next S v s' → IsState S s'
