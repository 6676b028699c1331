-- The trees of tables with the places that faults need, as definitions read them: they hold no pointers.
-- And the table that such a tree stands for, which has none of these places. What contains no expression
-- is read as the code has it.
use Rattle.std.specs.Prelude.{ℕ, Bool, true, false, cond, nat_eq, List, [], ◌∷◌, map, Option, Some, None}
use Rattle.lola_tree.specs.declared.named.Named.{Named}
use Rattle.lola_tree.specs.declared.named.Shape.{Shape}
use Rattle.lola_tree.specs.Tree.{Tree, number, ActualTree, actual_tree, place_tree}
use Rattle.tab_tree.specs.declared.table.Active.{Active}
use Rattle.tab_tree.specs.declared.table.BusRoles.{BusRoles}
use Rattle.tab_tree.specs.Table.{RolesTree, StateTree, LetTree, SetTree, TurnsTree, AccessTree, idle_row, take_row, load_row, store_row, fetch_row, PhaseTree, InsideTree, ClassTree, TableTree}
use Rattle.tab_parse.specs.declared.placed.ActiveRole.{ActiveRole}
use Rattle.tab_parse.specs.declared.placed.ActiveRole.TheVariants as active
use Rattle.tab_parse.specs.declared.placed.PortRole.{PortRole}
use Rattle.tab_parse.specs.declared.placed.PortRole.TheVariants as port
use Rattle.tab_parse.specs.declared.placed.PlacedRole.{PlacedRole}
use Rattle.tab_parse.specs.declared.placed.PlacedRole.TheVariants as role
use Rattle.tab_parse.specs.declared.placed.PlacedState.{PlacedState}
use Rattle.tab_parse.specs.declared.placed.PlacedLet.{PlacedLet}
use Rattle.tab_parse.specs.declared.placed.PlacedSet.{PlacedSet}
use Rattle.tab_parse.specs.declared.placed.PlacedTurns.{PlacedTurns}
use Rattle.tab_parse.specs.declared.placed.PlacedAccess.{PlacedAccess}
use Rattle.tab_parse.specs.declared.placed.PlacedAccess.TheVariants as access
use Rattle.tab_parse.specs.declared.placed.PlacedPhase.{PlacedPhase}
use Rattle.tab_parse.specs.declared.placed.PlacedInside.{PlacedInside}
use Rattle.tab_parse.specs.declared.placed.PlacedClass.{PlacedClass}
use Rattle.tab_parse.specs.declared.placed.PlacedTable.{PlacedTable}
use Rattle.tab_parse.specs.declared.classes.Pattern.{Pattern}
use Rattle.tab_parse.specs.declared.table.Heading.{Heading}
use Rattle.tab_parse.specs.declared.table.Views.{Views}
use Rattle.tab_parse.specs.declared.table.Effects.{Effects}

-- a row of the roles, at the place of its word
pub data RoleAt : Type 0 where
  active_row : (role : ActiveRole) (at : ℕ) (port : Named) (value : ℕ) → RoleAt
  code_row : (at : ℕ) (shown : ActualTree) → RoleAt
  port_row : (role : PortRole) (at : ℕ) (port : Named) → RoleAt

abbrev pub role_at : PlacedRole → RoleAt
role_at (role.Active role at port value) = active_row role at port value
role_at (role.Code at shown) = code_row at (actual_tree shown)
role_at (role.Port role at port) = port_row role at port

-- a STATE row
pub record StateAt : Type 0 where
  pub name : Named
  pub shape : Shape
  pub shown : ActualTree

abbrev pub state_at : PlacedState → StateAt
state_at row = record { name = row.name; shape = row.shape; shown = actual_tree row.shown }

-- a FIELDS row or a LET
pub record LetAt : Type 0 where
  pub name : Named
  pub value : ActualTree

abbrev pub let_at : PlacedLet → LetAt
let_at row = record { name = row.name; value = actual_tree row.value }

-- a START, SHOWS or SET row, with the places of its "[" and its ":="
pub record SetAt : Type 0 where
  pub name : Named
  pub place : Option ActualTree
  pub equals : ℕ
  pub value : ActualTree

abbrev pub set_at : PlacedSet → SetAt
set_at row = record { name = row.name; place = place_tree row.place; equals = row.equals; value = actual_tree row.value }

-- the turns of a phase, with the place of their type
pub record TurnsAt : Type 0 where
  pub times : ℕ
  pub shape : Shape
  pub shape_at : ℕ
  pub first : ActualTree
  pub step : ActualTree

abbrev pub turns_at : PlacedTurns → TurnsAt
turns_at t = record { times = t.times; shape = t.shape; shape_at = t.shape_at; first = actual_tree t.first; step = actual_tree t.step }

abbrev pub some_turns_at : Option PlacedTurns → Option TurnsAt
some_turns_at None = None
some_turns_at (Some t) = Some (turns_at t)

-- what a phase does to memory; a BYTE part may be missing
pub data AccessAt : Type 0 where
  idle_at : AccessAt
  take_at : AccessAt
  load_at : (adr : ActualTree) (byte : Option ActualTree) → AccessAt
  store_at : (adr : ActualTree) (byte : Option ActualTree) (word : ActualTree) → AccessAt
  fetch_at : (adr : ActualTree) → AccessAt

abbrev pub access_at : PlacedAccess → AccessAt
access_at access.Idle = idle_at
access_at access.Take = take_at
access_at (access.Load adr byte) = load_at (actual_tree adr) (place_tree byte)
access_at (access.Store adr byte word) = store_at (actual_tree adr) (place_tree byte) (actual_tree word)
access_at (access.Fetch adr) = fetch_at (actual_tree adr)

-- a phase; its LINK may be missing
pub record PhaseAt : Type 0 where
  pub turns : Option TurnsAt
  pub access : AccessAt
  pub shows : List SetAt
  pub link : Option ActualTree

abbrev pub phase_at : PlacedPhase → PhaseAt
phase_at phase = record { turns = some_turns_at phase.turns; access = access_at phase.access; shows = map set_at phase.shows; link = place_tree phase.link }

-- the steps of an instruction
pub record InsideAt : Type 0 where
  pub lets : List LetAt
  pub phases : List PhaseAt
  pub sets : List SetAt

abbrev pub inside_at : PlacedInside → InsideAt
inside_at inside = record { lets = map let_at inside.lets; phases = map phase_at inside.phases; sets = map set_at inside.sets }

abbrev pub some_inside_at : Option PlacedInside → Option InsideAt
some_inside_at None = None
some_inside_at (Some inside) = Some (inside_at inside)

-- a class of words, with the place of its pattern; one without steps is OUTSIDE
pub record ClassAt : Type 0 where
  pub name : Named
  pub pattern : List ℕ
  pub pattern_at : ℕ
  pub inside : Option InsideAt

abbrev pub class_at : PlacedClass → ClassAt
class_at class = record { name = class.name; pattern = class.pattern; pattern_at = class.pattern_at; inside = some_inside_at class.inside }

-- its pattern alone
abbrev pub pattern_of : ClassAt → Pattern
pattern_of class = record { at = class.pattern_at; places = class.pattern }

-- a table
pub record TableAt : Type 0 where
  pub name : Named
  pub root : Named
  pub roles : List RoleAt
  pub states : List StateAt
  pub fields : List LetAt
  pub invariant : ActualTree
  pub boundary : ActualTree
  pub starts : List SetAt
  pub start_fetch : Option ActualTree
  pub classes : List ClassAt
  pub ends : Named

abbrev pub table_at : PlacedTable → TableAt
table_at table = record {
  name = table.name;
  root = table.root;
  roles = map role_at table.roles;
  states = map state_at table.states;
  fields = map let_at table.fields;
  invariant = actual_tree table.invariant;
  boundary = actual_tree table.boundary;
  starts = map set_at table.starts;
  start_fetch = place_tree table.start_fetch;
  classes = map class_at table.classes;
  ends = table.ends;
}

-- The sections of a table: what stands before STATE, before START and before END.
pub record HeadingAt : Type 0 where
  pub name : Named
  pub root : Named
  pub roles : List RoleAt

pub record ViewsAt : Type 0 where
  pub states : List StateAt
  pub fields : List LetAt
  pub invariant : ActualTree
  pub boundary : ActualTree

pub record EffectsAt : Type 0 where
  pub starts : List SetAt
  pub start_fetch : Option ActualTree
  pub classes : List ClassAt

abbrev pub heading_at : Heading → HeadingAt
heading_at heading = record { name = heading.name; root = heading.root; roles = map role_at heading.roles }

abbrev pub views_at : Views → ViewsAt
views_at views = record {
  states = map state_at views.states;
  fields = map let_at views.fields;
  invariant = actual_tree views.invariant;
  boundary = actual_tree views.boundary;
}

abbrev pub effects_at : Effects → EffectsAt
effects_at effects = record {
  starts = map set_at effects.starts;
  start_fetch = place_tree effects.start_fetch;
  classes = map class_at effects.classes;
}

abbrev pub heading_of : TableAt → HeadingAt
heading_of table = record { name = table.name; root = table.root; roles = table.roles }

abbrev pub views_of : TableAt → ViewsAt
views_of table = record { states = table.states; fields = table.fields; invariant = table.invariant; boundary = table.boundary }

abbrev pub effects_of : TableAt → EffectsAt
effects_of table = record { starts = table.starts; start_fetch = table.start_fetch; classes = table.classes }

-- Without places.

-- the expression alone, where there is one, or this one where none is written
abbrev pub expr_of : Option ActualTree → Option Tree
expr_of None = None
expr_of (Some e) = Some e.value

abbrev pub expr_or : Tree → Option ActualTree → Tree
expr_or unwritten None = unwritten
expr_or unwritten (Some e) = e.value

abbrev pub state_of : StateAt → StateTree
state_of row = record { name = row.name.name; shape = row.shape; shown = row.shown.value }

abbrev pub let_of : LetAt → LetTree
let_of row = record { name = row.name.name; value = row.value.value }

abbrev pub set_of : SetAt → SetTree
set_of row = record { name = row.name.name; place = expr_of row.place; value = row.value.value }

abbrev pub turns_of : Option TurnsAt → Option TurnsTree
turns_of None = None
turns_of (Some t) = Some (record { times = t.times; shape = t.shape; first = t.first.value; step = t.step.value })

-- a BYTE part that isn't written is the number 0
abbrev pub access_of : AccessAt → AccessTree
access_of idle_at = idle_row
access_of take_at = take_row
access_of (load_at adr byte) = load_row adr.value (expr_or (number 0 None 0) byte)
access_of (store_at adr byte word) = store_row adr.value (expr_or (number 0 None 0) byte) word.value
access_of (fetch_at adr) = fetch_row adr.value

-- a LINK that isn't written is the number 1
abbrev pub phase_of : PhaseAt → PhaseTree
phase_of phase = record {
  turns = turns_of phase.turns;
  access = access_of phase.access;
  shows = map set_of phase.shows;
  link = expr_or (number 1 None 0) phase.link;
}

abbrev pub inside_of : Option InsideAt → Option InsideTree
inside_of None = None
inside_of (Some inside) = Some (record { lets = map let_of inside.lets; phases = map phase_of inside.phases; sets = map set_of inside.sets })

abbrev pub class_of : ClassAt → ClassTree
class_of class = record { name = class.name.name; pattern = class.pattern; inside = inside_of class.inside }

-- the first row of a role: a port that is active at 1 exactly where its number is 1, an expression, a port
abbrev pub is_active_role : ActiveRole → ActiveRole → Bool
is_active_role active.Reset active.Reset = true
is_active_role active.Stall active.Stall = true
is_active_role wanted other = false

abbrev pub role_number : PortRole → ℕ
role_number port.Fetched = 0
role_number port.Loaded = 1
role_number port.Read = 2
role_number port.Write = 3
role_number port.Address = 4
role_number port.Byte = 5
role_number port.Data = 6

abbrev pub is_port_role : PortRole → PortRole → Bool
is_port_role wanted other = nat_eq (role_number wanted) (role_number other)

abbrev pub active_of : ActiveRole → List RoleAt → Option Active
active_of wanted [] = None
active_of wanted (active_row role at port value ∷ rows) =
    cond (is_active_role wanted role) (Some (record { port = port.name; value = nat_eq value 1 })) (active_of wanted rows)
active_of wanted (code_row at shown ∷ rows) = active_of wanted rows
active_of wanted (port_row role at port ∷ rows) = active_of wanted rows

abbrev pub code_of : List RoleAt → Option Tree
code_of [] = None
code_of (active_row role at port value ∷ rows) = code_of rows
code_of (code_row at shown ∷ rows) = Some shown.value
code_of (port_row role at port ∷ rows) = code_of rows

abbrev pub port_of : PortRole → List RoleAt → Option (List ℕ)
port_of wanted [] = None
port_of wanted (active_row role at port value ∷ rows) = port_of wanted rows
port_of wanted (code_row at shown ∷ rows) = port_of wanted rows
port_of wanted (port_row role at port ∷ rows) = cond (is_port_role wanted role) (Some port.name) (port_of wanted rows)

-- the bus, where all five of its roles are there
abbrev pub bus_of : Option (List ℕ) → Option (List ℕ) → Option (List ℕ) → Option (List ℕ) → Option (List ℕ) → Option BusRoles
bus_of (Some read) (Some write) (Some address) (Some byte) (Some word) =
    Some (record { read = read; write = write; address = address; byte = byte; word = word })
bus_of read write address byte word = None

-- the roles, where RESET is among them
abbrev pub roles_from : Option Active → List RoleAt → Option RolesTree
roles_from None rows = None
roles_from (Some reset) rows = Some (record {
  reset = reset;
  stall = active_of active.Stall rows;
  code = code_of rows;
  fetched = port_of port.Fetched rows;
  loaded = port_of port.Loaded rows;
  bus = bus_of (port_of port.Read rows) (port_of port.Write rows) (port_of port.Address rows) (port_of port.Byte rows) (port_of port.Data rows);
})

abbrev pub roles_of : List RoleAt → Option RolesTree
roles_of rows = roles_from (active_of active.Reset rows) rows

abbrev pub with_roles : TableAt → Option RolesTree → Option TableTree
with_roles table None = None
with_roles table (Some roles) = Some (record {
  name = table.name.name;
  root = table.root.name;
  roles = roles;
  states = map state_of table.states;
  fields = map let_of table.fields;
  invariant = table.invariant.value;
  boundary = table.boundary.value;
  starts = map set_of table.starts;
  start_fetch = expr_of table.start_fetch;
  classes = map class_of table.classes;
})

-- the table that a placed tree stands for: there is none without RESET
abbrev pub table_of : TableAt → Option TableTree
table_of table = with_roles table (roles_of table.roles)
