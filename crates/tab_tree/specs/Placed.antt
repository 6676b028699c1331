-- The expressions of a table where they stand: which names are in scope there, and the width that is
-- needed.
use Rattle.std.specs.Prelude.{ℕ, zero, suc, Bool, true, false, if◌then◌else◌, nat_lt, ◌||◌, List, [], ◌∷◌, ◌++◌, length, flat_map, Option, Some, None}
use Rattle.lola_tree.specs.declared.named.Shape.{Shape}
use Rattle.lola_tree.specs.declared.named.Shape.TheVariants.{Vector, Array}
use Rattle.lola_tree.specs.Tree.{Tree, SourceTree}
use Rattle.lola_tree.specs.Width.{width}
use Rattle.lola_tree.specs.Value.{or_zero}
use Rattle.tab_tree.specs.declared.table.BusRoles.{BusRoles}
use Rattle.tab_tree.specs.Table.{StateTree, LetTree, SetTree, TurnsTree, AccessTree, idle_row, take_row, load_row, store_row, fetch_row, PhaseTree, InsideTree, ClassTree, TableTree}
use Rattle.tab_tree.specs.Step.{first_of}
use Rattle.tab_tree.specs.Names.{Form, vector_form, array_form, Names, nothing, no_names, mapped, scope_by, with_forms, fixed, shape_form, state_form, form_width, form_place}
use Rattle.tab_tree.specs.Registers.{registers_of, source_forms, port_width}

-- an expression with the names in scope, and its width where one is needed
pub record Placed : Type 0 where
  pub names : Names Form
  pub expr : Tree
  pub wanted : Option ℕ

-- the width of the word `i`: that of CODE, or 1 without it
abbrev pub code_width : SourceTree → Option Tree → ℕ
code_width S None = 1
code_width S (Some e) = or_zero (width (scope_by (source_forms S)) e)

abbrev pub word_width : SourceTree → TableTree → ℕ
word_width S T = code_width S T.roles.code

-- the width of a role's port
abbrev pub role_width : SourceTree → Option (List ℕ) → Option ℕ
role_width S None = None
role_width S (Some port) = port_width S port

-- a phase takes a loaded word
abbrev pub takes_word : AccessTree → Bool
takes_word idle_row = false
takes_word take_row = true
takes_word (load_row adr byte) = true
takes_word (store_row adr byte word) = false
takes_word (fetch_row adr) = false

-- the phase of a number
abbrev pub phase_at : List PhaseTree → ℕ → Option PhaseTree
phase_at [] j = None
phase_at (phase ∷ phases) zero = Some phase
phase_at (phase ∷ phases) (suc j) = phase_at phases j

-- the loaded word of a phase with LOAD, of the width of LOADED, and the accumulator of a phase with
-- TURNS, of the type behind OF
abbrev pub loaded_form : SourceTree → TableTree → Option PhaseTree → Option Form
loaded_form S T None = None
loaded_form S T (Some phase) = if takes_word phase.access then mapped vector_form (role_width S T.roles.loaded) else None

abbrev pub accumulator : Option TurnsTree → Option Form
accumulator None = None
accumulator (Some t) = Some (shape_form t.shape)

abbrev pub turned_form : Option PhaseTree → Option Form
turned_form None = None
turned_form (Some phase) = accumulator phase.turns

-- those of the phases before number p
abbrev pub before : ℕ → (ℕ → Option Form) → ℕ → Option Form
before p forms j = if nat_lt j p then forms j else None

-- the count `k` of width 8, where it is in scope
abbrev pub count_form : Bool → Option Form
count_form true = Some (vector_form 8)
count_form false = None

-- a FIELDS row: the word and earlier fields
abbrev pub word_forms : SourceTree → TableTree → Names Form
word_forms S T = record no_names { word = Some (vector_form (word_width S T)) }

abbrev pub field_forms : SourceTree → TableTree → List ℕ → Option Form
field_forms S T = (with_forms T.fields (word_forms S T)).named

-- the names in a class but for its LETs: the word, the states and the fields, the loaded words of phases
-- below `loads` and the accumulators of those below `turns`, the count where it counts, and in LINK the
-- registers
abbrev pub bare_forms : SourceTree → TableTree → List PhaseTree → (loads turns : ℕ) → Bool → (List (List ℕ) → Option Form) → Names Form
bare_forms S T phases loads turns counts registers = record {
  word = Some (vector_form (word_width S T));
  count = count_form counts;
  loaded = before loads (λ j. loaded_form S T (phase_at phases j));
  turned = before turns (λ j. turned_form (phase_at phases j));
  named = λ name. first_of (state_form T.states name) (field_forms S T name);
  register = registers;
}

abbrev pub class_forms : SourceTree → TableTree → InsideTree → (loads turns : ℕ) → Bool → (List (List ℕ) → Option Form) → Names Form
class_forms S T b loads turns counts registers = with_forms b.lets (bare_forms S T b.phases loads turns counts registers)

-- rows one behind another, each over the names of those before it
abbrev pub rows_placed : List LetTree → Names Form → List Placed
rows_placed [] names = []
rows_placed (row ∷ rows) names = record { names = names; expr = row.value; wanted = None } ∷ rows_placed rows (with_forms (row ∷ []) names)

-- the width of a state, of a vector or of the elements, and that of its places
abbrev pub form_value : Option Form → Option ℕ
form_value None = None
form_value (Some (vector_form width)) = Some width
form_value (Some (array_form count width)) = Some width

-- a START, SHOWS or SET row: a value of the state's width, and where it has a place one of the places' width
abbrev pub place_placed : Option Tree → Names Form → Option ℕ → List Placed
place_placed None names wanted = []
place_placed (Some place) names wanted = record { names = names; expr = place; wanted = wanted } ∷ []

abbrev pub set_placed : TableTree → Names Form → SetTree → List Placed
set_placed T names row =
    place_placed row.place names (form_place (state_form T.states row.name))
    ++ record { names = names; expr = row.value; wanted = form_value (state_form T.states row.name) } ∷ []

-- the expression of a state that is a vector: registers alone
abbrev pub state_placed : SourceTree → Shape → Tree → List Placed
state_placed S (Vector width) e = record { names = source_forms S; expr = e; wanted = fixed width } ∷ []
state_placed S (Array count width) e = []

-- FROM sees what the phase sees, and STEP also its own accumulator and the count
abbrev pub turns_placed : (before within : Names Form) → Option TurnsTree → List Placed
turns_placed before within None = []
turns_placed before within (Some t) =
    record { names = before; expr = t.first; wanted = form_width (Some (shape_form t.shape)) }
    ∷ record { names = within; expr = t.step; wanted = form_width (Some (shape_form t.shape)) } ∷ []

-- the widths of the bus ports, where there are any
abbrev pub address_width : SourceTree → Option BusRoles → Option ℕ
address_width S None = None
address_width S (Some bus) = port_width S bus.address

abbrev pub data_width : SourceTree → Option BusRoles → Option ℕ
data_width S None = None
data_width S (Some bus) = port_width S bus.word

abbrev pub access_placed : SourceTree → TableTree → Names Form → AccessTree → List Placed
access_placed S T names idle_row = []
access_placed S T names take_row = []
access_placed S T names (load_row adr byte) =
    record { names = names; expr = adr; wanted = address_width S T.roles.bus } ∷ record { names = names; expr = byte; wanted = Some 1 } ∷ []
access_placed S T names (store_row adr byte word) =
    record { names = names; expr = adr; wanted = address_width S T.roles.bus }
    ∷ record { names = names; expr = byte; wanted = Some 1 } ∷ record { names = names; expr = word; wanted = data_width S T.roles.bus } ∷ []
access_placed S T names (fetch_row adr) = record { names = names; expr = adr; wanted = address_width S T.roles.bus } ∷ []

abbrev pub has_turns : Option TurnsTree → Bool
has_turns None = false
has_turns (Some t) = true

-- phase p sees the words and accumulators of the phases before it; its STEP, SHOWS and LINK also its own
-- accumulator and the count, where it has TURNS; LINK also registers
abbrev pub phase_placed : SourceTree → TableTree → InsideTree → ℕ → PhaseTree → List Placed
phase_placed S T b p phase =
    turns_placed (class_forms S T b p p false nothing) (class_forms S T b p (suc p) (has_turns phase.turns) nothing) phase.turns
    ++ (access_placed S T (class_forms S T b p p false nothing) phase.access
    ++ (flat_map (set_placed T (class_forms S T b p (suc p) (has_turns phase.turns) nothing)) phase.shows
    ++ record { names = class_forms S T b p (suc p) (has_turns phase.turns) (registers_of S); expr = phase.link; wanted = Some 1 } ∷ []))

abbrev pub phases_placed : SourceTree → TableTree → InsideTree → ℕ → List PhaseTree → List Placed
phases_placed S T b p [] = []
phases_placed S T b p (phase ∷ phases) = phase_placed S T b p phase ++ phases_placed S T b (suc p) phases

-- some phase has TURNS
abbrev pub some_turns : List PhaseTree → Bool
some_turns [] = false
some_turns (phase ∷ phases) = has_turns phase.turns || some_turns phases

-- a LET may hold the words and accumulators of all phases, and the count where there is one; SET sees
-- all words and accumulators
abbrev pub inside_placed : SourceTree → TableTree → InsideTree → List Placed
inside_placed S T b =
    rows_placed b.lets (bare_forms S T b.phases (length b.phases) (length b.phases) (some_turns b.phases) nothing)
    ++ (phases_placed S T b 0 b.phases ++ flat_map (set_placed T (class_forms S T b (length b.phases) (length b.phases) false nothing)) b.sets)

abbrev pub class_placed : SourceTree → TableTree → Option InsideTree → List Placed
class_placed S T None = []
class_placed S T (Some b) = inside_placed S T b

abbrev pub given_placed : Option Tree → Names Form → Option ℕ → List Placed
given_placed None names wanted = []
given_placed (Some e) names wanted = record { names = names; expr = e; wanted = wanted } ∷ []

-- INVARIANT and BOUNDARY: registers alone
abbrev pub one_placed : SourceTree → Tree → Placed
one_placed S e = record { names = source_forms S; expr = e; wanted = Some 1 }

-- all expressions of a table but those of array states
abbrev pub placed : SourceTree → TableTree → List Placed
placed S T =
    given_placed T.roles.code (source_forms S) (role_width S T.roles.fetched)
    ++ (flat_map (λ (row : StateTree). state_placed S row.shape row.shown) T.states
    ++ (rows_placed T.fields (word_forms S T)
    ++ (one_placed S T.invariant
    ∷ one_placed S T.boundary
    ∷ (flat_map (set_placed T no_names) T.starts
    ++ (given_placed T.start_fetch no_names (address_width S T.roles.bus) ++ flat_map (λ (c : ClassTree). class_placed S T c.inside) T.classes)))))
