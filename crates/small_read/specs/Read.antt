-- What stands in the middle of some rules, where a call of its own reads it; and which answers a call
-- may give where what its rule says does stand at the front.
use Rattle.std.specs.Prelude.{◌≡◌, ℕ, Bool, if◌then◌else◌, List, [], ◌∷◌, codes, Option, Some, None, Result, Ok, Err}
use Rattle.lola_parse.specs.declared.symbol.Symbol.TheVariants as sym
use Rattle.lola_parse.specs.Symbols.{Item}
use Rattle.lola_parse.specs.Grammar.{Passes, Stands, Words}
use Rattle.small_tree.specs.declared.table.Active.{Active}
use Rattle.small_tree.specs.Table.{PhaseTree}
use Rattle.small_read.specs.declared.fault.TableFault.{TableFault}
use Rattle.small_read.specs.declared.fault.TableFault.TheVariants as fault
use Rattle.small_read.specs.declared.reader.Heading.{Heading}
use Rattle.small_read.specs.Kept.{ViewsTree, EffectsTree}
use Rattle.small_read.specs.Grammar.{Keyword, Named, Ended, Roles, MoreRoles, MoreStates, MoreStarts, OnePhase, MorePhases, MoreClasses}

-- what a call may fail with where it has something to read: want of memory
abbrev pub IsWant : TableFault → Type 0
IsWant fault.NotBuilt = ⊥
IsWant fault.Memory = Unit {0}

-- exactly this was read and this stands behind it, want of memory aside
abbrev pub IsRead : {X T : Type 0} → (X → T) → T → List Item → Result (X × List Item) TableFault → Type 0
IsRead view tree rest (Ok read) = (view read.0 ≡ tree) × (read.1 ≡ rest)
IsRead view tree rest (Err fault) = IsWant fault

-- exactly this name was read, want of memory aside
abbrev pub IsNameRead : List ℕ → Result (List ℕ) TableFault → Type 0
IsNameRead name (Ok read) = read ≡ name
IsNameRead name (Err fault) = IsWant fault

-- exactly this stands behind what had to be at the front
abbrev pub IsBehind : List Item → Result (List Item) TableFault → Type 0
IsBehind rest (Ok behind) = behind ≡ rest
IsBehind rest (Err fault) = ⊥

-- a word is not at the front
pub record Lacks (word : List ℕ) (all : List Item) : Type 0 where
  pub lacks : (rest : List Item) → Keyword word all rest → ⊥

-- no name is at the front
pub record LacksName (all : List Item) : Type 0 where
  pub lacks : (name : List ℕ) (rest : List Item) → Named name all rest → ⊥

-- neither role is at the front
pub record LacksRole (all : List Item) : Type 0 where
  pub no_reset : Lacks (codes "RESET") all
  pub no_loaded : Lacks (codes "LOADED") all

-- neither a phase nor a SET row of a class is at the front
pub record LacksRow (all : List Item) : Type 0 where
  pub no_phase : Lacks (codes "PHASE") all
  pub no_set : Lacks (codes "SET") all

-- no class and no row of one is at the front, nor a name
pub record LacksClass (all : List Item) : Type 0 where
  pub no_class : Lacks (codes "CLASS") all
  pub no_row : LacksRow all
  pub no_name : LacksName all

-- no role was read
abbrev pub no_roles : Roles
no_roles = record { reset = None; loaded = None }

-- number, which is 0 or 1
pub record Digit (all : List Item) (one : Bool) (rest : List Item) : Type 0 where
  pub value : ℕ
  pub width : Option ℕ
  pub at : ℕ
  pub number_read : Stands (sym.Number value width) at all rest
  pub value_is : value ≡ (if one then 1 else 0)

-- "RESET" word "=" number ";"
pub record ResetRow (all : List Item) (active : Active) (rest : List Item) : Type 0 where
  pub port : List Item
  pub sign : List Item
  pub behind : List Item
  pub ended : List Item
  pub word_passed : Keyword (codes "RESET") all port
  pub port_read : Words active.port port sign
  pub sign_passed : Passes sym.Equal sign behind
  pub value_read : Digit behind active.value ended
  pub ended_passed : Passes sym.Semicolon ended rest

-- "LOADED" word ";"
pub record LoadedRow (all : List Item) (word : List ℕ) (rest : List Item) : Type 0 where
  pub port : List Item
  pub ended : List Item
  pub word_passed : Keyword (codes "LOADED") all port
  pub port_read : Words word port ended
  pub ended_passed : Passes sym.Semicolon ended rest

-- phase {phase}
pub record Phases (all : List Item) (phases : List PhaseTree) (rest : List Item) : Type 0 where
  pub phase : PhaseTree
  pub more : List Item
  pub phase_read : OnePhase all phase more
  pub phases_read : MorePhases (phase ∷ []) more phases rest

-- "TABLE" name "FOR" name ";" "ROLES" {role}, where RESET is among the roles
pub record Headed (all : List Item) (heading : Heading) (rest : List Item) : Type 0 where
  pub title : List Item
  pub word_for : List Item
  pub root : List Item
  pub semicolon : List Item
  pub word_roles : List Item
  pub roles : List Item
  pub table_passed : Keyword (codes "TABLE") all title
  pub name_read : Named heading.name title word_for
  pub for_passed : Keyword (codes "FOR") word_for root
  pub root_read : Named heading.root root semicolon
  pub semicolon_passed : Passes sym.Semicolon semicolon word_roles
  pub roles_passed : Keyword (codes "ROLES") word_roles roles
  pub roles_read : MoreRoles no_roles roles (record { reset = Some heading.reset; loaded = heading.loaded }) rest

-- "STATE" {state} "INVARIANT" expr ";" "BOUNDARY" expr ";"
pub record Viewed (all : List Item) (views : ViewsTree) (rest : List Item) : Type 0 where
  pub first : List Item
  pub word_invariant : List Item
  pub second : List Item
  pub word_boundary : List Item
  pub third : List Item
  pub state_passed : Keyword (codes "STATE") all first
  pub states_read : MoreStates [] first views.states word_invariant
  pub invariant_passed : Keyword (codes "INVARIANT") word_invariant second
  pub invariant_read : Ended second views.invariant word_boundary
  pub boundary_passed : Keyword (codes "BOUNDARY") word_boundary third
  pub boundary_read : Ended third views.boundary rest

-- "START" {name ":=" expr ";"} {class}
pub record Effected (all : List Item) (effects : EffectsTree) (rest : List Item) : Type 0 where
  pub first : List Item
  pub behind : List Item
  pub start_passed : Keyword (codes "START") all first
  pub starts_read : MoreStarts [] first effects.starts behind
  pub classes_read : MoreClasses [] behind effects.classes rest

-- "END" name "." to the end
pub record Ending (all : List Item) (name : List ℕ) : Type 0 where
  pub ends : List Item
  pub dot : List Item
  pub end_passed : Passes sym.End all ends
  pub ends_read : Named name ends dot
  pub dot_passed : Passes sym.Dot dot []
