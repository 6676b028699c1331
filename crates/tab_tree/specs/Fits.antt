-- Which tables suit a design: no rule of tables is broken. Each field of `IsFitting` speaks of faults of one kind;
-- together they ask that there is none. A fault may also be kept out by a field of another kind: what an array
-- state shows, say, is asked by `kinds` to be a register, and so no name in it is unknown.
use Rattle.std.specs.Prelude.{◌≡◌, ◌≢◌, ◌⊎◌, ℕ, ◌≤◌, Bool, true, false, ◌&&◌, ◌||◌, nat_eq, cond, List, [], ◌∷◌, ◌++◌, length, map, Option, Some, None, is_some}
use Rattle.std.specs.List.{AllByRecursion}
use Rattle.lola_tree.specs.declared.named.Ref.{Ref}
use Rattle.lola_tree.specs.declared.named.Shape.{Shape}
use Rattle.lola_tree.specs.declared.named.Shape.TheVariants.{Vector, Array}
use Rattle.lola_tree.specs.declared.module.Port.{Port}
use Rattle.lola_tree.specs.declared.module.Way.TheVariants.{Outward}
use Rattle.lola_tree.specs.Tree.{Tree, number, whole, bit, slice, index, concat, negation, binary, choice, Parts, no_part, one_part, ModuleTree, SourceTree}
use Rattle.lola_tree.specs.Width.{is_width, width}
use Rattle.lola_bits.specs.Lists.{IsIn, AreDistinct}
use Rattle.lola_tree.specs.Cycle.{IsRoot}
use Rattle.lola_tree.specs.design.Signals.{input, Signal}
use Rattle.lola_tree.specs.design.Cycle.{IsSignal}
use Rattle.tab_tree.specs.declared.table.Active.{Active}
use Rattle.tab_tree.specs.declared.table.BusRoles.{BusRoles}
use Rattle.tab_tree.specs.Table.{RolesTree, StateTree, LetTree, SetTree, TurnsTree, AccessTree, idle_row, take_row, load_row, store_row, fetch_row, PhaseTree, InsideTree, ClassTree, TableTree}
use Rattle.lola_tree.specs.Value.{or_zero}
use Rattle.tab_tree.specs.Names.{Form, vector_form, array_form, form_element, Names, look, fixed, are_digits, is_empty, scope_by, shape_form, state_form}
use Rattle.tab_tree.specs.Registers.{registers_of, port_width}
use Rattle.tab_tree.specs.Step.{fits}
use Rattle.tab_tree.specs.Placed.{Placed, word_width, placed}

-- ---- what is declared twice

-- `i`, `k`, and `d` or `t` with digits behind it can't be declared
abbrev pub is_word_name : List ℕ → Bool
is_word_name [] = false
is_word_name (c ∷ cs) = cond (is_empty cs) (nat_eq c 105 || nat_eq c 107) ((nat_eq c 100 || nat_eq c 116) && are_digits cs)

abbrev pub let_names : List LetTree → List (List ℕ)
let_names rows = map (λ (row : LetTree). row.name) rows

abbrev pub set_names : List SetTree → List (List ℕ)
set_names rows = map (λ (row : SetTree). row.name) rows

abbrev pub state_names : TableTree → List (List ℕ)
state_names T = map (λ (row : StateTree). row.name) T.states

-- the names in a class: states, fields and its LETs
abbrev pub names_in : TableTree → List LetTree → List (List ℕ)
names_in T lets = state_names T ++ (let_names T.fields ++ let_names lets)

abbrev pub AreDeclarable : List (List ℕ) → Type 0
AreDeclarable names = AllByRecursion (λ name. is_word_name name ≡ false) names

pub record InsideOnce (T : TableTree) (b : InsideTree) : Type 0 where
  pub names : AreDistinct (names_in T b.lets)
  pub declarable : AreDeclarable (names_in T b.lets)
  pub sets : AreDistinct (set_names b.sets)
  pub shows : AllByRecursion (λ (phase : PhaseTree). AreDistinct (set_names phase.shows)) b.phases

-- what holds of the steps of each class that has some
abbrev pub OfInside : (InsideTree → Type 0) → Option InsideTree → Type 0
OfInside P None = Unit {0}
OfInside P (Some b) = P b

abbrev pub EachInside : (ClassTree → InsideTree → Type 0) → TableTree → Type 0
EachInside P T = AllByRecursion (λ (c : ClassTree). OfInside (P c) c.inside) T.classes

pub record ComesOnce (T : TableTree) : Type 0 where
  pub classes : AreDistinct (map (λ (c : ClassTree). c.name) T.classes)
  pub names : AreDistinct (names_in T [])
  pub declarable : AreDeclarable (names_in T [])
  pub starts : AreDistinct (set_names T.starts)
  pub inside : EachInside (λ c b. InsideOnce T b) T

-- ---- names in scope, and what they are

-- what an expression asks of the names that it reads as vectors, and of those that it indexes
abbrev mutual
  pub Reads : (Ref → Type 0) → (Ref → Type 0) → Tree → Type 0
  Reads P Q (number value written at) = Unit {0}
  Reads P Q (whole of) = P of
  Reads P Q (bit of place at) = P of
  Reads P Q (slice of high low at) = P of
  Reads P Q (index of place at) = Q of × Reads P Q place
  Reads P Q (concat parts at) = PartsRead P Q parts
  Reads P Q (negation arg at) = Reads P Q arg
  Reads P Q (binary op left right at) = Reads P Q left × Reads P Q right
  Reads P Q (choice test first second at) = Reads P Q test × Reads P Q first × Reads P Q second

  pub PartsRead : (Ref → Type 0) → (Ref → Type 0) → Parts → Type 0
  PartsRead P Q no_part = Unit {0}
  PartsRead P Q (one_part e times behind) = Reads P Q e × PartsRead P Q behind

-- a name is in scope
abbrev pub IsKnown : Names Form → Ref → Type 0
IsKnown names r = look names r ≢ None

abbrev pub IsAnArray : Option Form → Type 0
IsAnArray None = ⊥
IsAnArray (Some (vector_form width)) = ⊥
IsAnArray (Some (array_form count width)) = Unit {0}

abbrev pub IsAVector : Option Form → Type 0
IsAVector None = ⊥
IsAVector (Some (vector_form width)) = Unit {0}
IsAVector (Some (array_form count width)) = ⊥

-- a row sets a state
abbrev pub SetsState : TableTree → SetTree → Type 0
SetsState T row = state_form T.states row.name ≢ None

-- a row for an array has a place, and one for another state has none
abbrev pub IsPlaced : Option Tree → Option Form → Type 0
IsPlaced place None = ⊥
IsPlaced place (Some (vector_form width)) = place ≡ None
IsPlaced place (Some (array_form count width)) = place ≢ None

abbrev pub SuitsState : TableTree → SetTree → Type 0
SuitsState T row = IsPlaced row.place (state_form T.states row.name)

-- all rows that set states in a class
abbrev pub EachSet : (SetTree → Type 0) → TableTree → Type 0
EachSet P T = EachInside (λ c b. AllByRecursion P b.sets × AllByRecursion (λ (phase : PhaseTree). AllByRecursion P phase.shows) b.phases) T

-- the name behind FOR is that of the root
pub record IsRootNamed (S : SourceTree) (name : List ℕ) : Type 0 where
  pub root : ModuleTree
  pub is_root : IsRoot S root
  pub named : root.name ≡ name

-- each name is in scope where it stands, each path is that of a register, and each row sets a state
pub record IsKnowing (S : SourceTree) (T : TableTree) : Type 0 where
  pub root : IsRootNamed S T.root
  pub read : AllByRecursion (λ (e : Placed). Reads (IsKnown e.names) (IsKnown e.names) e.expr) (placed S T)
  pub starts : AllByRecursion (SetsState T) T.starts
  pub sets : EachSet (SetsState T) T

-- an array state is one whole register array with the same count
abbrev pub IsWhole : SourceTree → Tree → ℕ → Type 0
IsWhole S (whole of) count = (of.source ≡ true) × ((width : ℕ) × (registers_of S of.path ≡ Some (array_form count width)))
IsWhole S other count = ⊥

abbrev pub ShowsArray : SourceTree → Shape → Tree → Type 0
ShowsArray S (Vector width) e = Unit {0}
ShowsArray S (Array count width) e = IsWhole S e (or_zero (fixed count))

-- vectors are read and arrays are indexed; START sets no array; an accumulator is a vector
abbrev pub TurnsAreVectors : Option TurnsTree → Type 0
TurnsAreVectors None = Unit {0}
TurnsAreVectors (Some t) = IsAVector (Some (shape_form t.shape))

pub record IsOfKinds (S : SourceTree) (T : TableTree) : Type 0 where
  pub read : AllByRecursion (λ (e : Placed). Reads (λ r. IsAVector (look e.names r)) (λ r. IsAnArray (look e.names r)) e.expr) (placed S T)
  pub arrays : AllByRecursion (λ (row : StateTree). ShowsArray S row.shape row.shown) T.states
  pub starts : AllByRecursion (λ (row : SetTree). IsAVector (state_form T.states row.name) × (row.place ≡ None)) T.starts
  pub sets : EachSet (SuitsState T) T
  pub turns : EachInside (λ c b. AllByRecursion (λ (phase : PhaseTree). TurnsAreVectors phase.turns) b.phases) T

-- ---- roles

-- an IN port of the root but the clock
pub record IsInPort (S : SourceTree) (name : List ℕ) : Type 0 where
  pub signal : Signal
  pub listed : IsSignal S input signal
  pub leads : signal.path ≡ name ∷ []
  pub vector : port_width S name ≢ None

-- an OUT port of the root
pub record IsOutPort (S : SourceTree) (name : List ℕ) : Type 0 where
  pub root : ModuleTree
  pub is_root : IsRoot S root
  pub port : Port
  pub declared : IsIn port root.ports
  pub outward : port.way ≡ Outward
  pub named : port.name ≡ name
  pub vector : port_width S name ≢ None

-- a role of one bit with an active value
abbrev pub IsActiveRole : SourceTree → Option Active → Type 0
IsActiveRole S None = Unit {0}
IsActiveRole S (Some a) = IsInPort S a.port × (port_width S a.port ≡ Some 1)

abbrev pub IsInRole : SourceTree → Option (List ℕ) → Type 0
IsInRole S None = Unit {0}
IsInRole S (Some port) = IsInPort S port

-- the roles of the bus: READ, WRITE and BYTE are of one bit
pub record IsBus (S : SourceTree) (bus : BusRoles) : Type 0 where
  pub read : IsOutPort S bus.read × (port_width S bus.read ≡ Some 1)
  pub write : IsOutPort S bus.write × (port_width S bus.write ≡ Some 1)
  pub byte : IsOutPort S bus.byte × (port_width S bus.byte ≡ Some 1)
  pub address : IsOutPort S bus.address
  pub word : IsOutPort S bus.word

abbrev pub IsBusRole : SourceTree → Option BusRoles → Type 0
IsBusRole S None = Unit {0}
IsBusRole S (Some bus) = IsBus S bus

-- the ports of roles that must be distinct: FETCHED and LOADED may be one
abbrev pub active_port : Option Active → List (List ℕ)
active_port None = []
active_port (Some a) = a.port ∷ []

abbrev pub given_port : Option (List ℕ) → List (List ℕ)
given_port None = []
given_port (Some port) = port ∷ []

-- RESET, STALL, CODE with FETCHED, LOADED and the bus
pub record HasRoles (S : SourceTree) (roles : RolesTree) : Type 0 where
  pub reset : IsActiveRole S (Some roles.reset)
  pub stall : IsActiveRole S roles.stall
  pub fetched : IsInRole S roles.fetched
  pub loaded : IsInRole S roles.loaded
  pub bus : IsBusRole S roles.bus
  pub code : is_some roles.code ≡ is_some roles.fetched
  pub fetches_apart : AreDistinct (roles.reset.port ∷ (active_port roles.stall ++ given_port roles.fetched))
  pub loads_apart : AreDistinct (roles.reset.port ∷ (active_port roles.stall ++ given_port roles.loaded))

-- ---- widths

-- an expression has a width, and the one that is needed
abbrev pub HasWidth : Option ℕ → Option ℕ → Type 0
HasWidth None width = width ≢ None
HasWidth (Some wanted) width = width ≡ Some wanted

-- a type has a width from 1 to 128
abbrev pub IsFormWidth : Form → Type 0
IsFormWidth (vector_form width) = is_width width ≡ true
IsFormWidth (array_form count width) = is_width width ≡ true

abbrev pub TurnsHaveWidth : Option TurnsTree → Type 0
TurnsHaveWidth None = Unit {0}
TurnsHaveWidth (Some t) = IsFormWidth (shape_form t.shape)

-- the elements of an array state and of its registers have one width
abbrev pub HasElements : SourceTree → Tree → ℕ → Type 0
HasElements S (whole of) width = form_element (registers_of S of.path) ≡ Some width
HasElements S other width = Unit {0}

abbrev pub ArrayHasWidth : SourceTree → Shape → Tree → Type 0
ArrayHasWidth S (Vector width) e = Unit {0}
ArrayHasWidth S (Array count width) e = HasElements S e (or_zero (fixed width))

pub record HasWidths (S : SourceTree) (T : TableTree) : Type 0 where
  pub exprs : AllByRecursion (λ (e : Placed). HasWidth e.wanted (width (scope_by e.names) e.expr)) (placed S T)
  pub states : AllByRecursion (λ (row : StateTree). IsFormWidth (shape_form row.shape)) T.states
  pub arrays : AllByRecursion (λ (row : StateTree). ArrayHasWidth S row.shape row.shown) T.states
  pub turns : EachInside (λ c b. AllByRecursion (λ (phase : PhaseTree). TurnsHaveWidth phase.turns) b.phases) T

-- ---- patterns

-- a pattern has a place `0`, `1` or `-` for each bit of the word
abbrev pub IsPattern : ℕ → List ℕ → Type 0
IsPattern width pattern = (length pattern ≡ width) × AllByRecursion (λ c. (c ≡ 45) ⊎ (c ≡ 48) ⊎ (c ≡ 49)) pattern

-- no word fits two
abbrev pub AreApart : ClassTree → ClassTree → Type 0
AreApart c d = (word : ℕ) → fits c.pattern word ≡ true → fits d.pattern word ≡ true → ⊥

abbrev pub EachApart : List ClassTree → Type 0
EachApart [] = Unit {0}
EachApart (c ∷ classes) = AllByRecursion (AreApart c) classes × EachApart classes

-- some class is inside
pub record HasInside (T : TableTree) : Type 0 where
  pub class : ClassTree
  pub listed : IsIn class T.classes
  pub inside : class.inside ≢ None

-- ---- phases

-- from 1 to 255 turns, and no access
abbrev pub SuitsTurns : Option TurnsTree → AccessTree → Type 0
SuitsTurns None access = Unit {0}
SuitsTurns (Some t) access = (1 ≤ t.times) × (t.times ≤ 255) × (access ≡ idle_row)

-- LOAD needs LOADED; an address needs the bus, and where there is one LOAD has an address
abbrev pub SuitsAccess : TableTree → AccessTree → Type 0
SuitsAccess T idle_row = Unit {0}
SuitsAccess T take_row = (T.roles.loaded ≢ None) × (T.roles.bus ≡ None)
SuitsAccess T (load_row adr byte) = (T.roles.loaded ≢ None) × (T.roles.bus ≢ None)
SuitsAccess T (store_row adr byte word) = T.roles.bus ≢ None
SuitsAccess T (fetch_row adr) = Unit {0}

-- a table with CODE and bus roles fetches in its last phases, and there alone
abbrev pub fetches : TableTree → Bool
fetches T = is_some T.roles.code && is_some T.roles.bus

abbrev pub is_fetch : AccessTree → Bool
is_fetch idle_row = false
is_fetch take_row = false
is_fetch (load_row adr byte) = false
is_fetch (store_row adr byte word) = false
is_fetch (fetch_row adr) = true

abbrev pub is_last : List PhaseTree → Bool
is_last [] = true
is_last (phase ∷ phases) = false

-- in phase 0 nothing is said of what registers hold: no SHOWS, and no LINK but the number 1 without a width
abbrev pub IsUnlinked : Tree → Type 0
IsUnlinked (number value written at) = (value ≡ 1) × (written ≡ None)
IsUnlinked other = ⊥

pub record IsFirst (phase : PhaseTree) : Type 0 where
  pub shows : phase.shows ≡ []
  pub link : IsUnlinked phase.link
  pub turns : phase.turns ≡ None

abbrev pub StartsPlain : List PhaseTree → Type 0
StartsPlain [] = ⊥
StartsPlain (phase ∷ phases) = IsFirst phase

-- a last phase has no TURNS
abbrev pub MayTurn : Bool → Option TurnsTree → Type 0
MayTurn true turns = turns ≡ None
MayTurn false turns = Unit {0}

-- a phase, where the ones behind it are these
pub record IsShaped (T : TableTree) (phase : PhaseTree) (behind : List PhaseTree) : Type 0 where
  pub turns : SuitsTurns phase.turns phase.access
  pub last : MayTurn (is_last behind) phase.turns
  pub access : SuitsAccess T phase.access
  pub fetch : is_fetch phase.access ≡ (is_last behind && fetches T)

abbrev pub PhasesShaped : TableTree → List PhaseTree → Type 0
PhasesShaped T [] = Unit {0}
PhasesShaped T (phase ∷ phases) = IsShaped T phase phases × PhasesShaped T phases

-- START fetches where the table does
pub record HasPhases (T : TableTree) : Type 0 where
  pub start : is_some T.start_fetch ≡ fetches T
  pub first : EachInside (λ c b. StartsPlain b.phases) T
  pub each : EachInside (λ c b. PhasesShaped T b.phases) T

-- ---- all together

-- the limits of tables
pub record IsSmall (T : TableTree) : Type 0 where
  pub classes : length T.classes ≤ 512
  pub phases : EachInside (λ c b. length b.phases ≤ 16) T

pub record IsFitting (S : SourceTree) (T : TableTree) : Type 0 where
  pub small : IsSmall T
  pub once : ComesOnce T
  pub known : IsKnowing S T
  pub kinds : IsOfKinds S T
  pub roles : HasRoles S T.roles
  pub widths : HasWidths S T
  pub patterns : AllByRecursion (λ (c : ClassTree). IsPattern (word_width S T) c.pattern) T.classes
  pub phases : HasPhases T
  pub apart : EachApart T.classes
  pub inside : HasInside T
