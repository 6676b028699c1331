-- What a yes means: every reset cycle leaves a state that the table starts from, and every run from a
-- state that shows the table's invariant at a boundary shows at each boundary the states that the
-- table gives, and makes its accesses.
use Rattle.std.specs.Prelude.{◌≡◌, ◌≢◌, ◌⊎◌, ℕ, ◌-◌, ◌<◌, ◌≤◌, Bool, true, false, not, nat_eq, List, [], ◌∷◌, length, take, map, Option, Some, None, filter}
use Rattle.std.specs.List.{AllByRecursion}
use Rattle.lola_bits.specs.declared.vector.Bits.{Bits}
use Rattle.lola_bits.specs.Number.{number}
use Rattle.lola_tree.specs.declared.named.Shape.{Shape}
use Rattle.lola_tree.specs.declared.named.Shape.TheVariants.{Vector, Array}
use Rattle.lola_tree.specs.Tree.{Tree, whole, SourceTree}
use Rattle.lola_tree.specs.Value.{or_zero, Values}
use Rattle.lola_tree.specs.Cycle.{input_at}
use Rattle.lola_tree.specs.design.Cycle.{IsState, IsGiven, Cycle, Next, Run}
use Rattle.tab_tree.specs.declared.table.Active.{Active}
use Rattle.tab_tree.specs.declared.table.BusRoles.{BusRoles}
use Rattle.tab_tree.specs.declared.value.StateValue.{StateValue}
use Rattle.tab_tree.specs.declared.value.StateValue.TheVariants.{One, Many}
use Rattle.tab_tree.specs.declared.value.Answer.{Answer}
use Rattle.tab_tree.specs.declared.value.Access.{Access}
use Rattle.tab_tree.specs.declared.value.Access.TheVariants.{Idle, Load, Store, Fetch}
use Rattle.tab_tree.specs.Table.{active_value, StateTree, SetTree, InsideTree, ClassTree, TableTree}
use Rattle.tab_tree.specs.Names.{vector, Names, no_names, look, number_at, table_number, table_value, fixed}
use Rattle.tab_tree.specs.Registers.{port_width, elements, source_names}
use Rattle.tab_tree.specs.Step.{Arch, by_row, state_value, IsInside, Boundary, Row}

-- the number n of what a bare name stands for
abbrev pub element_shown : Tree → Names StateValue → ℕ → ℕ
element_shown (whole of) names n = number_at (look names of) n
element_shown other names n = 0

-- the value of a state in a state of the design: that of its expression, or the elements of the
-- register array that it names
abbrev pub shown_by : Shape → Tree → Names StateValue → StateValue
shown_by (Vector width) e names = One (table_value names e)
shown_by (Array count width) e names = Many (elements (or_zero (fixed count)) 0 (or_zero (fixed width)) (element_shown e names))

abbrev pub row_shown : SourceTree → StateTree → Values → StateValue
row_shown S row s = shown_by row.shape row.shown (source_names S s)

-- the states that a state of the design shows
abbrev pub shown : SourceTree → TableTree → Values → Arch
shown S T s = by_row (λ n row. row_shown S row s) 0 T.states

-- the word that it shows; without CODE it is 0 of width 1
abbrev pub word_shown : SourceTree → Option Tree → Values → Bits
word_shown S None s = vector 1 0
word_shown S (Some e) s = table_value (source_names S s) e

abbrev pub shown_word : SourceTree → TableTree → Values → Bits
shown_word S T s = word_shown S T.roles.code s

-- an expression over registers is 1
abbrev pub IsOne : SourceTree → Tree → Values → Type 0
IsOne S e s = table_number (source_names S s) e ≡ 1

-- a state of the design is at a boundary, and shows these states and this word
pub record Shows (S : SourceTree) (T : TableTree) (s : Values) (A : Arch) (word : Bits) : Type 0 where
  pub invariant : IsOne S T.invariant s
  pub boundary : IsOne S T.boundary s
  pub states : shown S T s ≡ A
  pub code : shown_word S T s ≡ word

-- the value of a port
abbrev pub port_value : Values → List ℕ → ℕ
port_value v port = v (port ∷ []) 0

-- a role has its active value
abbrev pub is_active : Active → Values → Bool
is_active a inp = nat_eq (port_value inp a.port) (active_value a)

abbrev pub IsActive : TableTree → Values → Type 0
IsActive T inp = is_active T.roles.reset inp ≡ true

abbrev pub IsIdle : TableTree → Values → Type 0
IsIdle T inp = is_active T.roles.reset inp ≡ false

-- without STALL every cycle is unstalled
abbrev pub unstalled_by : Option Active → Values → Bool
unstalled_by None inp = true
unstalled_by (Some a) inp = not (is_active a inp)

abbrev pub is_unstalled : TableTree → Values → Bool
is_unstalled T inp = unstalled_by T.roles.stall inp

-- the number of unstalled cycles among some
abbrev pub unstalled : TableTree → List Values → ℕ
unstalled T inputs = length (filter (is_unstalled T) inputs)

-- the value of a role's port, or 0 of width 1 where the role is absent
abbrev pub role_value : SourceTree → Option (List ℕ) → Values → Bits
role_value S None inp = vector 1 0
role_value S (Some port) inp = vector (or_zero (port_width S port)) (port_value inp port)

-- what the outside answers in a cycle
abbrev pub answer_of : SourceTree → TableTree → Values → Answer
answer_of S T inp = record { code = role_value S T.roles.fetched inp; loaded = role_value S T.roles.loaded inp }

-- the answers of the unstalled cycles in order
abbrev pub answers_of : SourceTree → TableTree → List Values → List Answer
answers_of S T inputs = map (answer_of S T) (filter (is_unstalled T) inputs)

-- a boundary lasts through the stalled cycles behind it while its word is inside; of an outside word
-- only its first moment is claimed
abbrev pub Lasts : TableTree → List Values → Bits → ℕ → Type 0
Lasts T inputs word c = ((k : ClassTree) × ((b : InsideTree) × IsInside T word k b)) ⊎ (c ≡ 0) ⊎ (is_unstalled T (input_at inputs (c - 1)) ≡ true)

-- a cycle makes an access; without bus roles none is claimed
abbrev pub SeesOn : BusRoles → Values → Access → Type 0
SeesOn bus v Idle = (port_value v bus.read ≡ 0) × (port_value v bus.write ≡ 0)
SeesOn bus v (Load adr byte) =
    (port_value v bus.read ≡ 1) × (port_value v bus.write ≡ 0) × (port_value v bus.address ≡ adr.value) × (port_value v bus.byte ≡ number byte)
SeesOn bus v (Store adr byte word) =
    (port_value v bus.read ≡ 0)
    × (port_value v bus.write ≡ 1)
    × (port_value v bus.address ≡ adr.value)
    × (port_value v bus.byte ≡ number byte)
    × (port_value v bus.word ≡ word.value)
SeesOn bus v (Fetch adr) = (port_value v bus.read ≡ 0) × (port_value v bus.write ≡ 0) × (port_value v bus.address ≡ adr.value)

abbrev pub SeesBy : Option BusRoles → Values → Access → Type 0
SeesBy None v access = Unit {0}
SeesBy (Some bus) v access = SeesOn bus v access

abbrev pub Sees : TableTree → Values → Access → Type 0
Sees T v access = SeesBy T.roles.bus v access

-- a run with RESET idle, from a state at a boundary that shows the states A and the word i
pub record Starts (S : SourceTree) (T : TableTree) (inputs : List Values) (s v : ℕ → Values) (A : Arch) (i : Bits) : Type 0 where
  pub run : Run S inputs s v
  pub given : AllByRecursion (IsGiven S) inputs
  pub idle : AllByRecursion (IsIdle T) inputs
  pub state : IsState S (s 0)
  pub shows : Shows S T (s 0) A i

-- every run shows at each boundary the states and the word that the table gives, and makes its
-- accesses
pub record Commutes (S : SourceTree) (T : TableTree) : Type 0 where
  pub boundaries : (inputs : List Values) (s v : ℕ → Values) (A : Arch) (i : Bits) → Starts S T inputs s v A i →
      (B : Arch) (j : Bits) (b c : ℕ) → Boundary T (answers_of S T inputs) A i B j b → c ≤ length inputs → unstalled T (take c inputs) ≡ b →
      Lasts T inputs j c → Shows S T (s c) B j
  pub accesses : (inputs : List Values) (s v : ℕ → Values) (A : Arch) (i : Bits) → Starts S T inputs s v A i →
      (c : ℕ) (access : Access) → c < length inputs → is_unstalled T (input_at inputs c) ≡ true →
      Row T (answers_of S T inputs) A i (unstalled T (take c inputs)) access → Sees T (v c) access

-- each START row is met: its state has the row's number
abbrev pub MeetsStart : TableTree → Arch → Type 0
MeetsStart T A = AllByRecursion (λ (row : SetTree). number_at (state_value T.states A row.name) 0 ≡ table_number no_names row.value) T.starts

-- a reset cycle of a design: from a state, under an input with RESET active and no stall, to the state
-- behind it
pub record IsResetCycle (S : SourceTree) (T : TableTree) (s inp v s' : Values) : Type 0 where
  pub state : IsState S s
  pub given : IsGiven S inp
  pub active : IsActive T inp
  pub unstalled : is_unstalled T inp ≡ true
  pub cycle : Cycle S s inp v
  pub next : Next S v s'

-- the access of a reset cycle, in tables with CODE
pub record IsStartAccess (T : TableTree) (access : Access) : Type 0 where
  pub code : T.roles.code ≢ None
  pub adr : Tree
  pub fetch : T.start_fetch ≡ Some adr
  pub made : access ≡ Fetch (table_value no_names adr)

-- every reset cycle leaves a state at a boundary that shows the START values and the word that was
-- fetched, from any state at all, and makes the access of START
pub record Resets (S : SourceTree) (T : TableTree) : Type 0 where
  pub leaves : (s inp v s' : Values) → IsResetCycle S T s inp v s' → Shows S T s' (shown S T s') (answer_of S T inp).code × MeetsStart T (shown S T s')
  pub accesses : (s inp v s' : Values) → IsResetCycle S T s inp v s' → (access : Access) → IsStartAccess T access → Sees T v access
