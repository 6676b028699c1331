-- The tables that definitions read. They hold no pointers, so two tables that are spelled alike have
-- one tree. Rows have no places; an expression keeps those of its tokens, which no definition here
-- looks at. What contains no expression is read as the code has it.
use Rattle.std.specs.Prelude.{ℕ, if◌then◌else◌, List, map, Option, Some, None}
use Rattle.lola_tree.specs.declared.named.Shape.{Shape}
use Rattle.lola_tree.specs.declared.expr.Expr.{Expr}
use Rattle.lola_tree.specs.Tree.{Tree, tree}
use Rattle.tab_tree.specs.declared.table.Active.{Active}
use Rattle.tab_tree.specs.declared.table.BusRoles.{BusRoles}
use Rattle.tab_tree.specs.declared.table.Roles.{Roles}
use Rattle.tab_tree.specs.declared.table.StateRow.{StateRow}
use Rattle.tab_tree.specs.declared.table.LetRow.{LetRow}
use Rattle.tab_tree.specs.declared.table.SetRow.{SetRow}
use Rattle.tab_tree.specs.declared.table.Turns.{Turns}
use Rattle.tab_tree.specs.declared.table.AccessRow.{AccessRow}
use Rattle.tab_tree.specs.declared.table.AccessRow.TheVariants.{Idle, Take, Load, Store, Fetch}
use Rattle.tab_tree.specs.declared.table.Phase.{Phase}
use Rattle.tab_tree.specs.declared.table.Inside.{Inside}
use Rattle.tab_tree.specs.declared.table.Class.{Class}
use Rattle.tab_tree.specs.declared.table.Table.{Table}

-- the value at which a role is active
abbrev pub active_value : Active → ℕ
active_value a = if a.value then 1 else 0

abbrev pub expr_tree : Option Expr → Option Tree
expr_tree None = None
expr_tree (Some e) = Some (tree e)

-- the roles of ports, and the expression that shows the word
pub record RolesTree : Type 0 where
  pub reset : Active
  pub stall : Option Active
  pub code : Option Tree
  pub fetched : Option (List ℕ)
  pub loaded : Option (List ℕ)
  pub bus : Option BusRoles

abbrev pub roles_tree : Roles → RolesTree
roles_tree roles = record {
  reset = roles.reset;
  stall = roles.stall;
  code = expr_tree roles.code;
  fetched = roles.fetched;
  loaded = roles.loaded;
  bus = roles.bus;
}

-- a state that a programmer sees, its type, and the expression over registers that shows it
pub record StateTree : Type 0 where
  pub name : List ℕ
  pub shape : Shape
  pub shown : Tree

abbrev pub state_tree : StateRow → StateTree
state_tree row = record { name = row.name; shape = row.shape; shown = tree row.shown }

-- a name for the value of an expression
pub record LetTree : Type 0 where
  pub name : List ℕ
  pub value : Tree

abbrev pub let_tree : LetRow → LetTree
let_tree row = record { name = row.name; value = tree row.value }

-- a state, or the element of it at a place, and its value
pub record SetTree : Type 0 where
  pub name : List ℕ
  pub place : Option Tree
  pub value : Tree

abbrev pub set_tree : SetRow → SetTree
set_tree row = record { name = row.name; place = expr_tree row.place; value = tree row.value }

-- how many turns, the type of the accumulator, its first value, and what a turn makes of it
pub record TurnsTree : Type 0 where
  pub times : ℕ
  pub shape : Shape
  pub first : Tree
  pub step : Tree

abbrev pub turns_tree : Option Turns → Option TurnsTree
turns_tree None = None
turns_tree (Some t) = Some (record { times = t.times; shape = t.shape; first = tree t.first; step = tree t.step })

-- what a phase does to memory; `take_row` is LOAD without an address
pub data AccessTree : Type 0 where
  idle_row : AccessTree
  take_row : AccessTree
  load_row : (adr byte : Tree) → AccessTree
  store_row : (adr byte word : Tree) → AccessTree
  fetch_row : (adr : Tree) → AccessTree

abbrev pub access_tree : AccessRow → AccessTree
access_tree Idle = idle_row
access_tree Take = take_row
access_tree (Load adr byte) = load_row (tree adr) (tree byte)
access_tree (Store adr byte word) = store_row (tree adr) (tree byte) (tree word)
access_tree (Fetch adr) = fetch_row (tree adr)

-- a phase, and what the registers hold when it, or a turn of it, begins
pub record PhaseTree : Type 0 where
  pub turns : Option TurnsTree
  pub access : AccessTree
  pub shows : List SetTree
  pub link : Tree

abbrev pub phase_tree : Phase → PhaseTree
phase_tree phase = record { turns = turns_tree phase.turns; access = access_tree phase.access; shows = map set_tree phase.shows; link = tree phase.link }

-- the steps of an instruction
pub record InsideTree : Type 0 where
  pub lets : List LetTree
  pub phases : List PhaseTree
  pub sets : List SetTree

abbrev pub steps_tree : Inside → InsideTree
steps_tree b = record { lets = map let_tree b.lets; phases = map phase_tree b.phases; sets = map set_tree b.sets }

abbrev pub inside_tree : Option Inside → Option InsideTree
inside_tree None = None
inside_tree (Some b) = Some (steps_tree b)

-- a class of words: its pattern is bytes 0, 1 and -, the highest bit first; one without steps is OUTSIDE
pub record ClassTree : Type 0 where
  pub name : List ℕ
  pub pattern : List ℕ
  pub inside : Option InsideTree

abbrev pub class_tree : Class → ClassTree
class_tree class = record { name = class.name; pattern = class.pattern; inside = inside_tree class.inside }

-- a table
pub record TableTree : Type 0 where
  pub name : List ℕ
  pub root : List ℕ
  pub roles : RolesTree
  pub states : List StateTree
  pub fields : List LetTree
  pub invariant : Tree
  pub boundary : Tree
  pub starts : List SetTree
  pub start_fetch : Option Tree
  pub classes : List ClassTree

abbrev pub table_tree : Table → TableTree
table_tree table = record {
  name = table.name;
  root = table.root;
  roles = roles_tree table.roles;
  states = map state_tree table.states;
  fields = map let_tree table.fields;
  invariant = tree table.invariant;
  boundary = tree table.boundary;
  starts = map set_tree table.starts;
  start_fetch = expr_tree table.start_fetch;
  classes = map class_tree table.classes;
}
