-- What a yes means: every reset cycle leaves a state that the table starts from, and every run from a
-- state that shows the table's invariant at a boundary shows at each boundary the states that the
-- table gives.
use Rattle.std.specs.Prelude.{◌≡◌, ◌⊎◌, ℕ, ◌-◌, ◌<◌, ◌≤◌, Bool, true, List, [], ◌∷◌, length, take, map, Option, Some, None, filter}
use Rattle.std.specs.List.{AllByRecursion}
use Rattle.lola_tree.specs.Tree.{SourceTree}
use Rattle.lola_tree.specs.Value.{Values}
use Rattle.lola_tree.specs.Cycle.{IsState, IsGiven, Cycle, Next, Run, input_at}
use Rattle.small_tree.specs.Table.{active_value, idle_value, StateTree, SetTree, ClassTree, TableTree}
use Rattle.small_tree.specs.Step.{Arch, Answer, IsInside, source_names, no_names, state_value, Boundary, Access, idle, IsStartAccess, Row, table_value}

-- the states that a state of the design shows
abbrev pub shown : TableTree → Values → Arch
shown T s = map (λ (row : StateTree). table_value row.shown (source_names s)) T.states

-- the word that it shows; without CODE it is 0
abbrev pub shown_word : TableTree → Values → ℕ
shown_word T s = 0

-- a state of the design is at a boundary, and shows these states and this word
pub record Shows (T : TableTree) (s : Values) (A : Arch) (word : ℕ) : Type 0 where
  pub invariant : table_value T.invariant (source_names s) ≡ 1
  pub boundary : table_value T.boundary (source_names s) ≡ 1
  pub states : shown T s ≡ A
  pub code : shown_word T s ≡ word

-- the value of a port in an input
abbrev pub port_value : Values → List ℕ → ℕ
port_value inp port = inp (port ∷ []) 0

-- RESET has its active value, or hasn't
abbrev pub IsActive : TableTree → Values → Type 0
IsActive T inp = port_value inp T.reset.port ≡ active_value T.reset

abbrev pub IsIdle : TableTree → Values → Type 0
IsIdle T inp = port_value inp T.reset.port ≡ idle_value T.reset

-- without STALL every cycle is unstalled
abbrev pub is_unstalled : TableTree → Values → Bool
is_unstalled T inp = true

-- the number of unstalled cycles among some
abbrev pub unstalled : TableTree → List Values → ℕ
unstalled T inputs = length (filter (is_unstalled T) inputs)

-- the value of a role's port, or 0 of width 1 where the role is absent
abbrev pub role_value : Option (List ℕ) → Values → ℕ
role_value None inp = 0
role_value (Some port) inp = port_value inp port

-- what the outside answers in a cycle
abbrev pub answer_of : TableTree → Values → Answer
answer_of T inp = record { code = role_value None inp; loaded = role_value T.loaded inp }

-- the answers of the unstalled cycles in order
abbrev pub answers_of : TableTree → List Values → List Answer
answers_of T inputs = map (answer_of T) (filter (is_unstalled T) inputs)

-- a boundary lasts through the stalled cycles behind it while its word is inside; of an outside word
-- only its first moment is claimed
abbrev pub Lasts : TableTree → List Values → ℕ → ℕ → Type 0
Lasts T inputs word c = ((k : ClassTree) × IsInside T word k) ⊎ (c ≡ 0) ⊎ (is_unstalled T (input_at inputs (c - 1)) ≡ true)

-- a cycle makes an access; without bus roles none is claimed
abbrev pub Sees : TableTree → Values → Access → Type 0
Sees T v idle = Unit {0}

-- a run with RESET idle, from a state at a boundary that shows the states A and the word i
pub record Starts (S : SourceTree) (T : TableTree) (inputs : List Values) (s v : ℕ → Values) (A : Arch) (i : ℕ) : Type 0 where
  pub run : Run S inputs s v
  pub given : AllByRecursion (IsGiven S) inputs
  pub idle : AllByRecursion (IsIdle T) inputs
  pub state : IsState S (s 0)
  pub shows : Shows T (s 0) A i

-- every run shows at each boundary the states and the word that the table gives, and makes its
-- accesses
pub record Commutes (S : SourceTree) (T : TableTree) : Type 0 where
  pub boundaries : (inputs : List Values) (s v : ℕ → Values) (A : Arch) (i : ℕ) → Starts S T inputs s v A i →
      (B : Arch) (j b c : ℕ) → Boundary T (answers_of T inputs) A i B j b → c ≤ length inputs → unstalled T (take c inputs) ≡ b →
      Lasts T inputs j c → Shows T (s c) B j
  pub accesses : (inputs : List Values) (s v : ℕ → Values) (A : Arch) (i : ℕ) → Starts S T inputs s v A i →
      (c : ℕ) (access : Access) → c < length inputs → is_unstalled T (input_at inputs c) ≡ true →
      Row T (answers_of T inputs) A i (unstalled T (take c inputs)) access → Sees T (v c) access

-- each START row is met
abbrev pub MeetsStart : TableTree → Arch → Type 0
MeetsStart T A = AllByRecursion (λ (row : SetTree). state_value T.states A row.name ≡ table_value row.value no_names) T.starts

-- a reset cycle of a design: from a state, under an input with RESET active and no stall, to the state
-- behind it
pub record IsResetCycle (S : SourceTree) (T : TableTree) (s inp v s' : Values) : Type 0 where
  pub state : IsState S s
  pub given : IsGiven S inp
  pub active : IsActive T inp
  pub unstalled : is_unstalled T inp ≡ true
  pub cycle : Cycle S s inp v
  pub next : Next S v s'

-- every reset cycle leaves a state at a boundary that shows the START values, from any state at all, and
-- makes the access of START
pub record Resets (S : SourceTree) (T : TableTree) : Type 0 where
  pub leaves : (s inp v s' : Values) → IsResetCycle S T s inp v s' → Shows T s' (shown T s') (answer_of T inp).code × MeetsStart T (shown T s')
  pub accesses : (s inp v s' : Values) → IsResetCycle S T s inp v s' → (access : Access) → IsStartAccess T access → Sees T v access
