-- The text that a table is printed as: its tokens in the order of the grammar, each with a blank behind
-- it, but that a line feed stands behind `;` and behind the `.` at the end. Roles stand in the order of
-- the grammar.
use Rattle.std.specs.Prelude.{ℕ, Bool, false, cond, ◌&&◌, List, [], ◌∷◌, ◌++◌, Option, Some, None, nat_eq, codes}
use Rattle.std.specs.Option.{is_none}
use Rattle.lola_tree.specs.Tree.{Tree, number}
use Rattle.lola_tree.specs.Print.{name_text, number_text, expr_text, shape_text}
use Rattle.tab_tree.specs.declared.table.Active.{Active}
use Rattle.tab_tree.specs.declared.table.BusRoles.{BusRoles}
use Rattle.tab_tree.specs.Table.{active_value, RolesTree, StateTree, LetTree, SetTree, TurnsTree, AccessTree, idle_row, take_row, load_row, store_row, fetch_row, PhaseTree, InsideTree, ClassTree, TableTree}

abbrev pub ending : List ℕ
ending = codes ";\n"

-- an expression behind a word
abbrev pub given_text : List ℕ → Tree → List ℕ
given_text word e = word ++ expr_text e

-- and the end of its row
abbrev pub ended_text : List ℕ → Tree → List ℕ
ended_text word e = word ++ (expr_text e ++ ending)

abbrev pub maybe_text : List ℕ → Option Tree → List ℕ
maybe_text word None = []
maybe_text word (Some e) = ended_text word e

-- roles
abbrev pub active_text : List ℕ → Active → List ℕ
active_text word a = word ++ (name_text a.port ++ (codes "= " ++ (number_text (active_value a) None ++ ending)))

abbrev pub stall_text : Option Active → List ℕ
stall_text None = []
stall_text (Some a) = active_text (codes "STALL ") a

abbrev pub port_text : List ℕ → List ℕ → List ℕ
port_text word port = word ++ (name_text port ++ ending)

abbrev pub role_text : List ℕ → Option (List ℕ) → List ℕ
role_text word None = []
role_text word (Some port) = port_text word port

abbrev pub bus_text : Option BusRoles → List ℕ
bus_text None = []
bus_text (Some bus) =
    port_text (codes "READ ") bus.read
    ++ (port_text (codes "WRITE ") bus.write ++ (port_text (codes "ADDRESS ") bus.address ++ (port_text (codes "BYTE ") bus.byte ++ port_text (codes "DATA ") bus.word)))

abbrev pub roles_text : RolesTree → List ℕ
roles_text roles =
    active_text (codes "RESET ") roles.reset
    ++ (stall_text roles.stall
    ++ (maybe_text (codes "CODE ") roles.code
    ++ (role_text (codes "FETCHED ") roles.fetched ++ (role_text (codes "LOADED ") roles.loaded ++ bus_text roles.bus))))

-- states
abbrev pub state_text : StateTree → List ℕ
state_text row = name_text row.name ++ (codes ": " ++ (shape_text row.shape ++ (codes "IS " ++ (expr_text row.shown ++ ending))))

abbrev pub states_text : List StateTree → List ℕ
states_text [] = []
states_text (row ∷ rows) = state_text row ++ states_text rows

-- fields and LETs: what stands before the first, and before each other
abbrev pub let_text : LetTree → List ℕ
let_text row = name_text row.name ++ (codes "IS " ++ (expr_text row.value ++ ending))

abbrev pub fields_text : List ℕ → List LetTree → List ℕ
fields_text before [] = []
fields_text before (row ∷ rows) = before ++ (let_text row ++ fields_text [] rows)

abbrev pub lets_text : List LetTree → List ℕ
lets_text [] = []
lets_text (row ∷ rows) = codes "LET " ++ (let_text row ++ lets_text rows)

-- rows that set states
abbrev pub place_text : Option Tree → List ℕ
place_text None = []
place_text (Some place) = codes "[ " ++ (expr_text place ++ codes "] ")

abbrev pub set_text : SetTree → List ℕ
set_text row = name_text row.name ++ (place_text row.place ++ (codes ":= " ++ expr_text row.value))

abbrev pub starts_text : List SetTree → List ℕ
starts_text [] = []
starts_text (row ∷ rows) = set_text row ++ (ending ++ starts_text rows)

abbrev pub sets_text : List SetTree → List ℕ
sets_text [] = []
sets_text (row ∷ rows) = codes "SET " ++ (set_text row ++ (ending ++ sets_text rows))

abbrev pub shows_text : List ℕ → List SetTree → List ℕ
shows_text before [] = []
shows_text before (row ∷ rows) = before ++ (set_text row ++ shows_text (codes ", ") rows)

-- a number without a width
abbrev pub is_number : ℕ → Tree → Bool
is_number n (number value width at) = nat_eq value n && is_none width
is_number n other = false

-- phases: no BYTE that is the number 0 and no LINK that is the number 1 is written
abbrev pub turns_text : Option TurnsTree → List ℕ
turns_text None = []
turns_text (Some t) =
    codes "TURNS "
    ++ (number_text t.times None
    ++ (codes "OF " ++ (shape_text t.shape ++ (codes "FROM " ++ (expr_text t.first ++ (codes "STEP " ++ expr_text t.step))))))

abbrev pub byte_text : Tree → List ℕ
byte_text e = cond (is_number 0 e) [] (given_text (codes "BYTE ") e)

abbrev pub access_text : AccessTree → List ℕ
access_text idle_row = []
access_text take_row = codes "LOAD "
access_text (load_row adr byte) = codes "LOAD " ++ (expr_text adr ++ byte_text byte)
access_text (store_row adr byte word) = codes "STORE " ++ (expr_text adr ++ (byte_text byte ++ given_text (codes "DATA ") word))
access_text (fetch_row adr) = given_text (codes "FETCH ") adr

abbrev pub link_text : Tree → List ℕ
link_text e = cond (is_number 1 e) [] (given_text (codes "LINK ") e)

abbrev pub phase_text : PhaseTree → List ℕ
phase_text phase =
    codes "PHASE " ++ (turns_text phase.turns ++ (access_text phase.access ++ (shows_text (codes "SHOWS ") phase.shows ++ (link_text phase.link ++ ending))))

abbrev pub phases_text : List PhaseTree → List ℕ
phases_text [] = []
phases_text (phase ∷ phases) = phase_text phase ++ phases_text phases

-- classes
abbrev pub pattern_text : List ℕ → List ℕ
pattern_text pattern = codes "\"" ++ (pattern ++ codes "\" ")

abbrev pub inside_text : InsideTree → List ℕ
inside_text b = lets_text b.lets ++ (phases_text b.phases ++ sets_text b.sets)

abbrev pub steps_text : List ℕ → List ℕ → Option InsideTree → List ℕ
steps_text name pattern None = codes "OUTSIDE " ++ (name_text name ++ (pattern_text pattern ++ ending))
steps_text name pattern (Some b) = codes "CLASS " ++ (name_text name ++ (pattern_text pattern ++ inside_text b))

abbrev pub class_text : ClassTree → List ℕ
class_text c = steps_text c.name c.pattern c.inside

abbrev pub classes_text : List ClassTree → List ℕ
classes_text [] = []
classes_text (c ∷ classes) = class_text c ++ classes_text classes

-- what stands before the states, what speaks of registers, and what a table starts from
abbrev pub title_text : TableTree → List ℕ
title_text T = codes "TABLE " ++ (name_text T.name ++ (codes "FOR " ++ (name_text T.root ++ (ending ++ (codes "ROLES " ++ roles_text T.roles)))))

abbrev pub views_text : TableTree → List ℕ
views_text T =
    codes "STATE "
    ++ (states_text T.states ++ (fields_text (codes "FIELDS ") T.fields ++ (ended_text (codes "INVARIANT ") T.invariant ++ ended_text (codes "BOUNDARY ") T.boundary)))

abbrev pub start_text : TableTree → List ℕ
start_text T = codes "START " ++ (starts_text T.starts ++ maybe_text (codes "FETCH ") T.start_fetch)

-- a table
abbrev pub table_text : TableTree → List ℕ
table_text T = title_text T ++ (views_text T ++ (start_text T ++ (classes_text T.classes ++ (codes "END " ++ (name_text T.name ++ codes ".\n")))))
