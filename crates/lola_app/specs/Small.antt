-- The small form of a table: what fits the ports and registers of one bit of a design.
use Rattle.std.specs.Prelude.{◌≡◌, ◌≢◌, ◌⊎◌, ℕ, ◌≤◌, Bool, true, false, nat_eq, if◌then◌else◌, ◌&&◌, List, [], ◌∷◌, length, map, filter, codes, Some, None}
use Rattle.std.specs.List.{AllByRecursion}
use Rattle.lola_bits.specs.Lists.{IsIn, AreDistinct}
use Rattle.lola_tree.specs.declared.named.Ref.{Ref}
use Rattle.lola_tree.specs.Tree.{Tree, number, whole, bit, slice, index, concat, negation, binary, choice, ModuleTree}
use Rattle.lola_tree.specs.Names.{names_of}
use Rattle.lola_tree.specs.Width.{entry_width}
use Rattle.lola_tree.specs.Value.{or_zero}
use Rattle.lola_tree.specs.Signals.{input_names, register_names}
use Rattle.lola_scan.specs.Bytes.{is_digit}
use Rattle.lola_elab.specs.Small.{IsBit, IsSmallExpr}
use Rattle.small_tree.specs.Table.{StateTree, SetTree, PhaseTree, ClassTree, TableTree}
use Rattle.small_tree.specs.Step.{loads_first}

-- what a table sees of a design: the name of its root, and of its inputs but the clock and of its registers
-- those that are one bit wide
pub record Interface : Type 0 where
  pub root : List ℕ
  pub inputs : List (List ℕ)
  pub registers : List (List ℕ)

-- the width in bits of a name that is no array
abbrev pub width_in : ModuleTree → List ℕ → ℕ
width_in m name = or_zero (entry_width (names_of m) (names_of m name))

-- those of one bit among some names
abbrev pub bits_among : ModuleTree → List (List ℕ) → List (List ℕ)
bits_among m names = filter (λ (name : List ℕ). nat_eq (width_in m name) 1) names

abbrev pub interface_of : ModuleTree → Interface
interface_of m = record { root = m.name; inputs = bits_among m (input_names m); registers = bits_among m (register_names m.locals) }

-- `@` and the name of a register
abbrev pub IsSourceRegister : List (List ℕ) → Ref → Type 0
IsSourceRegister registers r = (r.source ≡ true) × ((name : List ℕ) × (r.path ≡ name ∷ []) × IsIn name registers)

-- an expression is one bare register
abbrev pub ShowsRegister : List (List ℕ) → Tree → Type 0
ShowsRegister registers (whole of) = IsSourceRegister registers of
ShowsRegister registers (number n width at) = ⊥
ShowsRegister registers (negation e at) = ⊥
ShowsRegister registers (binary o a b at) = ⊥
ShowsRegister registers (choice test first second at) = ⊥
ShowsRegister registers (bit of place at) = ⊥
ShowsRegister registers (slice of high low at) = ⊥
ShowsRegister registers (index of place at) = ⊥
ShowsRegister registers (concat parts at) = ⊥

-- the number 1 without a width
abbrev pub IsOne : Tree → Type 0
IsOne (number n width at) = (n ≡ 1) × (width ≡ None)
IsOne (whole of) = ⊥
IsOne (negation e at) = ⊥
IsOne (binary o a b at) = ⊥
IsOne (choice test first second at) = ⊥
IsOne (bit of place at) = ⊥
IsOne (slice of high low at) = ⊥
IsOne (index of place at) = ⊥
IsOne (concat parts at) = ⊥

-- decimal digits
abbrev pub are_digits : List ℕ → Bool
are_digits [] = true
are_digits (b ∷ bs) = is_digit b && are_digits bs

-- a name that means something in every table: `i` or `k`, bytes 105 and 107, and `d` or `t`, bytes 100 and
-- 116, with digits
abbrev pub is_taken : List ℕ → Bool
is_taken [] = false
is_taken (b ∷ []) = if nat_eq b 105 then true else nat_eq b 107
is_taken (b ∷ c ∷ cs) = (if nat_eq b 100 then true else nat_eq b 116) && (is_digit c && are_digits cs)

-- the names of the states
abbrev pub state_names : TableTree → List (List ℕ)
state_names T = map (λ (row : StateTree). row.name) T.states

-- a name that a class may hold: a state, the word `i`, and the loaded word `d0` where phase 0 takes it
abbrev pub IsClassName : TableTree → ClassTree → List ℕ → Type 0
IsClassName T c name = IsIn name (state_names T) ⊎ (name ≡ codes "i") ⊎ ((name ≡ codes "d0") × (loads_first c.phases ≡ true))

abbrev pub IsInClass : TableTree → ClassTree → Ref → Type 0
IsInClass T c r = (r.source ≡ false) × ((name : List ℕ) × (r.path ≡ name ∷ []) × IsClassName T c name)

-- no name at all
abbrev pub IsNoName : Ref → Type 0
IsNoName r = ⊥

-- a row that sets one of these states to such an expression
abbrev pub IsSmallRow : List (List ℕ) → (Ref → Type 0) → SetTree → Type 0
IsSmallRow states Names row = IsIn row.name states × IsSmallExpr Names row.value

-- rows that set states so, each state at most once
pub record AreSmallRows (states : List (List ℕ)) (Names : Ref → Type 0) (rows : List SetTree) : Type 0 where
  pub distinct : AreDistinct (map (λ (row : SetTree). row.name) rows)
  pub each : AllByRecursion (IsSmallRow states Names) rows

-- a class with a pattern of one place and one phase, which may load where there is a role for it
pub record IsSmallClass (T : TableTree) (c : ClassTree) : Type 0 where
  pub one_place : length c.pattern ≡ 1
  pub phase : PhaseTree
  pub one_phase : c.phases ≡ phase ∷ []
  pub linked : IsOne phase.link
  pub loads : phase.loads ≡ true → (port : List ℕ) × (T.loaded ≡ Some port)
  pub sets : AreSmallRows (state_names T) (IsInClass T c) c.sets

-- a state of one bit that shows one register, under a name that a table may declare
pub record IsSmallState (registers : List (List ℕ)) (row : StateTree) : Type 0 where
  pub declarable : is_taken row.name ≡ false
  pub one_bit : IsBit row.shape
  pub shows : ShowsRegister registers row.shown

-- at most 64 states, each under a name of its own
pub record AreSmallStates (registers : List (List ℕ)) (rows : List StateTree) : Type 0 where
  pub few : length rows ≤ 64
  pub distinct : AreDistinct (map (λ (row : StateTree). row.name) rows)
  pub each : AllByRecursion (IsSmallState registers) rows

-- the ports of the roles are inputs: RESET's, and LOADED's where there is that role, which is another
pub record AreSmallRoles (inputs : List (List ℕ)) (T : TableTree) : Type 0 where
  pub reset : IsIn T.reset.port inputs
  pub loaded : (port : List ℕ) → T.loaded ≡ Some port → IsIn port inputs × (port ≢ T.reset.port)

-- a table for a design with this interface, with one class
pub record IsSmallTable (face : Interface) (T : TableTree) : Type 0 where
  pub ends : T.ends ≡ T.name
  pub root : T.root ≡ face.root
  pub roles : AreSmallRoles face.inputs T
  pub states : AreSmallStates face.registers T.states
  pub invariant : IsSmallExpr (IsSourceRegister face.registers) T.invariant
  pub boundary : IsSmallExpr (IsSourceRegister face.registers) T.boundary
  pub starts : AreSmallRows (state_names T) IsNoName T.starts
  pub class : ClassTree
  pub one_class : T.classes ≡ class ∷ []
  pub small : IsSmallClass T class
