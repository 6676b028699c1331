-- The tables that definitions read. They hold no pointers, so two tables that are spelled alike have
-- one tree.
use Rattle.std.specs.Prelude.{ℕ, Bool, if◌then◌else◌, List, map, Option}
use Rattle.lola_tree.specs.declared.named.Shape.{Shape}
use Rattle.lola_tree.specs.Tree.{Tree, tree}
use Rattle.small_tree.specs.declared.table.Active.{Active}
use Rattle.small_tree.specs.declared.table.StateRow.{StateRow}
use Rattle.small_tree.specs.declared.table.SetRow.{SetRow}
use Rattle.small_tree.specs.declared.table.Phase.{Phase}
use Rattle.small_tree.specs.declared.table.Class.{Class}
use Rattle.small_tree.specs.declared.table.Table.{Table}

-- the value at which a role is active, and the one at which it is idle
abbrev pub active_value : Active → ℕ
active_value a = if a.value then 1 else 0

abbrev pub idle_value : Active → ℕ
idle_value a = if a.value then 0 else 1

-- a state that a programmer sees, its type, and the expression over registers that shows it
pub record StateTree : Type 0 where
  pub name : List ℕ
  pub shape : Shape
  pub shown : Tree

abbrev pub state_tree : StateRow → StateTree
state_tree row = record { name = row.name; shape = row.shape; shown = tree row.shown }

-- a state and its value, in START or in a class
pub record SetTree : Type 0 where
  pub name : List ℕ
  pub value : Tree

abbrev pub set_tree : SetRow → SetTree
set_tree row = record { name = row.name; value = tree row.value }

-- a phase: whether it takes a loaded word, and what links it to the phase before
pub record PhaseTree : Type 0 where
  pub loads : Bool
  pub link : Tree

abbrev pub phase_tree : Phase → PhaseTree
phase_tree phase = record { loads = phase.loads; link = tree phase.link }

-- a class of words: its pattern is bytes 0, 1 and -, the highest bit first
pub record ClassTree : Type 0 where
  pub name : List ℕ
  pub pattern : List ℕ
  pub phases : List PhaseTree
  pub sets : List SetTree

abbrev pub class_tree : Class → ClassTree
class_tree class = record { name = class.name; pattern = class.pattern; phases = map phase_tree class.phases; sets = map set_tree class.sets }

-- a table: the roles of ports, the states, and the classes in text order
pub record TableTree : Type 0 where
  pub name : List ℕ
  pub root : List ℕ
  pub reset : Active
  pub loaded : Option (List ℕ)
  pub states : List StateTree
  pub invariant : Tree
  pub boundary : Tree
  pub starts : List SetTree
  pub classes : List ClassTree
  pub ends : List ℕ

abbrev pub table_tree : Table → TableTree
table_tree table = record {
  name = table.name;
  root = table.root;
  reset = table.reset;
  loaded = table.loaded;
  states = map state_tree table.states;
  invariant = tree table.invariant;
  boundary = tree table.boundary;
  starts = map set_tree table.starts;
  classes = map class_tree table.classes;
  ends = table.ends;
}
