-- The grammar of tables, rule by rule, as that of designs: `Rule all tree rest` says that `all` begins
-- with what the rule spells, and that `rest` stands behind it. `{..}` is a chain that carries what
-- stands before it. Not built yet are the roles STALL, CODE, FETCHED and those of the bus, FIELDS, a
-- START that fetches, OUTSIDE, LET, TURNS, SHOWS, accesses with an address, and places of arrays.
use Rattle.std.specs.Prelude.{◌≡◌, ℕ, Bool, true, false, nat_eq, if◌then◌else◌, List, [], ◌∷◌, ◌++◌, filter, codes, Option, Some, None}
use Rattle.lola_tree.specs.Tree.{Tree, number}
use Rattle.lola_parse.specs.declared.symbol.Symbol.TheVariants as sym
use Rattle.lola_parse.specs.declared.symbol.Language.TheVariants.{Table}
use Rattle.lola_parse.specs.Symbols.{Item}
use Rattle.lola_parse.specs.Grammar.{Passes, Stands, Names, Words}
use Rattle.lola_parse.specs.Design.{Outermost, Shaped}
use Rattle.small_tree.specs.declared.table.Active.{Active}
use Rattle.small_tree.specs.Table.{active_value, StateTree, SetTree, PhaseTree, ClassTree, TableTree}

-- a word that tables reserve stands at the front, and the rest behind it
pub record Keyword (word : List ℕ) (all rest : List Item) : Type 0 where
  pub is_word : Bool
  pub at : ℕ
  pub splits : all ≡ record { symbol = sym.TableWord; is_word = is_word; spelled = word; at = at } ∷ rest

-- a name does, wherever that is
abbrev pub Named : List ℕ → List Item → List Item → Type 0
Named name all rest = (at : ℕ) × Names name at all rest

-- the places of a pattern: neither its quotes nor blanks count
abbrev pub is_place : ℕ → Bool
is_place b = if nat_eq b 45 then true else if nat_eq b 48 then true else nat_eq b 49

-- a pattern stands at the front
pub record Patterned (pattern : List ℕ) (all rest : List Item) : Type 0 where
  pub is_word : Bool
  pub spelled : List ℕ
  pub at : ℕ
  pub splits : all ≡ record { symbol = sym.Pattern; is_word = is_word; spelled = spelled; at = at } ∷ rest
  pub places : pattern ≡ filter is_place spelled

-- expr ";"
pub record Ended (all : List Item) (e : Tree) (rest : List Item) : Type 0 where
  pub behind : List Item
  pub read : Outermost Table all e behind
  pub ended : Passes sym.Semicolon behind rest

-- name ":=" expr ";"
pub record SetRow (all : List Item) (row : SetTree) (rest : List Item) : Type 0 where
  pub sign : List Item
  pub behind : List Item
  pub name_read : Named row.name all sign
  pub sign_passed : Passes sym.Assign sign behind
  pub value_read : Ended behind row.value rest

-- the roles that were read
pub record Roles : Type 0 where
  pub reset : Option Active
  pub loaded : Option (List ℕ)

-- role = "RESET" word "=" number ";" | "LOADED" word ";", where neither comes twice. The number is 0
-- or 1; a width that is written doesn't count
pub data Role (before : Roles) (all : List Item) : Roles → List Item → Type 0 where
  reset_role : {after : Roles} {rest : List Item} {value at : ℕ} {width : Option ℕ} (active : Active) (port sign behind ended : List Item) → before.reset ≡ None →
      Keyword (codes "RESET") all port → Words active.port port sign → Passes sym.Equal sign behind → Stands (sym.Number value width) at behind ended →
      value ≡ active_value active → Passes sym.Semicolon ended rest → after ≡ record { reset = Some active; loaded = before.loaded } → Role before all after rest
  loaded_role : {after : Roles} {rest : List Item} (word : List ℕ) (port ended : List Item) → before.loaded ≡ None → Keyword (codes "LOADED") all port →
      Words word port ended → Passes sym.Semicolon ended rest → after ≡ record { reset = before.reset; loaded = Some word } → Role before all after rest

-- {role}
pub data MoreRoles : Roles → List Item → Roles → List Item → Type 0 where
  no_role : {all rest : List Item} {before roles : Roles} → roles ≡ before → rest ≡ all → MoreRoles before all roles rest
  one_role : {all rest : List Item} {before longer roles : Roles} (behind : List Item) → Role before all longer behind → MoreRoles longer behind roles rest →
      MoreRoles before all roles rest

-- state = name ":" type "IS" expr ";"
pub record StateRow (all : List Item) (row : StateTree) (rest : List Item) : Type 0 where
  pub colon : List Item
  pub behind : List Item
  pub word : List Item
  pub first : List Item
  pub name_read : Named row.name all colon
  pub colon_passed : Passes sym.Colon colon behind
  pub shape_read : Shaped behind row.shape word
  pub word_passed : Keyword (codes "IS") word first
  pub shown_read : Ended first row.shown rest

-- {state}
pub data MoreStates : List StateTree → List Item → List StateTree → List Item → Type 0 where
  no_state : {all rest : List Item} {before states : List StateTree} → states ≡ before → rest ≡ all → MoreStates before all states rest
  one_state : {all rest : List Item} {before states : List StateTree} {row : StateTree} (behind : List Item) → StateRow all row behind →
      MoreStates (before ++ row ∷ []) behind states rest → MoreStates before all states rest

-- {name ":=" expr ";"}
pub data MoreStarts : List SetTree → List Item → List SetTree → List Item → Type 0 where
  no_start : {all rest : List Item} {before rows : List SetTree} → rows ≡ before → rest ≡ all → MoreStarts before all rows rest
  one_start : {all rest : List Item} {before rows : List SetTree} {row : SetTree} (behind : List Item) → SetRow all row behind →
      MoreStarts (before ++ row ∷ []) behind rows rest → MoreStarts before all rows rest

-- ["LOAD"]
pub data Loads (all : List Item) : Bool → List Item → Type 0 where
  no_load : {loads : Bool} {rest : List Item} → loads ≡ false → rest ≡ all → Loads all loads rest
  loads : {loads : Bool} {rest : List Item} → Keyword (codes "LOAD") all rest → loads ≡ true → Loads all loads rest

-- ["LINK" expr] ";", where a LINK that isn't written is the number 1
pub data Linked (all : List Item) : Tree → List Item → Type 0 where
  no_link : {link : Tree} {rest : List Item} → Passes sym.Semicolon all rest → link ≡ number 1 None 0 → Linked all link rest
  linked : {link : Tree} {rest : List Item} (behind : List Item) → Keyword (codes "LINK") all behind → Ended behind link rest → Linked all link rest

-- phase = "PHASE" ["LOAD"] ["LINK" expr] ";"
pub record OnePhase (all : List Item) (phase : PhaseTree) (rest : List Item) : Type 0 where
  pub first : List Item
  pub behind : List Item
  pub word_passed : Keyword (codes "PHASE") all first
  pub loads_read : Loads first phase.loads behind
  pub link_read : Linked behind phase.link rest

-- {phase}
pub data MorePhases : List PhaseTree → List Item → List PhaseTree → List Item → Type 0 where
  no_phase : {all rest : List Item} {before phases : List PhaseTree} → phases ≡ before → rest ≡ all → MorePhases before all phases rest
  next_phase : {all rest : List Item} {before phases : List PhaseTree} {phase : PhaseTree} (behind : List Item) → OnePhase all phase behind →
      MorePhases (before ++ phase ∷ []) behind phases rest → MorePhases before all phases rest

-- {"SET" name ":=" expr ";"}
pub data MoreSets : List SetTree → List Item → List SetTree → List Item → Type 0 where
  no_set : {all rest : List Item} {before rows : List SetTree} → rows ≡ before → rest ≡ all → MoreSets before all rows rest
  one_set : {all rest : List Item} {before rows : List SetTree} {row : SetTree} (first behind : List Item) → Keyword (codes "SET") all first →
      SetRow first row behind → MoreSets (before ++ row ∷ []) behind rows rest → MoreSets before all rows rest

-- class = "CLASS" name pattern phase {phase} {"SET" set ";"}
pub record OneClass (all : List Item) (class : ClassTree) (rest : List Item) : Type 0 where
  pub phase : PhaseTree
  pub title : List Item
  pub pattern : List Item
  pub first : List Item
  pub more : List Item
  pub sets : List Item
  pub word_passed : Keyword (codes "CLASS") all title
  pub name_read : Named class.name title pattern
  pub pattern_read : Patterned class.pattern pattern first
  pub phase_read : OnePhase first phase more
  pub phases_read : MorePhases (phase ∷ []) more class.phases sets
  pub sets_read : MoreSets [] sets class.sets rest

-- {class}
pub data MoreClasses : List ClassTree → List Item → List ClassTree → List Item → Type 0 where
  no_class : {all rest : List Item} {before classes : List ClassTree} → classes ≡ before → rest ≡ all → MoreClasses before all classes rest
  one_class : {all rest : List Item} {before classes : List ClassTree} {class : ClassTree} (behind : List Item) → OneClass all class behind →
      MoreClasses (before ++ class ∷ []) behind classes rest → MoreClasses before all classes rest

-- table = "TABLE" name "FOR" name ";" "ROLES" {role} "STATE" {state} "INVARIANT" expr ";"
--         "BOUNDARY" expr ";" "START" {name ":=" expr ";"} {class} "END" name "." to the end, where RESET
--         is among the roles
pub record SpellsTable (all : List Item) (T : TableTree) : Type 0 where
  pub title : List Item
  pub word_for : List Item
  pub root : List Item
  pub semicolon : List Item
  pub word_roles : List Item
  pub roles : List Item
  pub word_state : List Item
  pub states : List Item
  pub word_invariant : List Item
  pub invariant : List Item
  pub word_boundary : List Item
  pub boundary : List Item
  pub word_start : List Item
  pub starts : List Item
  pub classes : List Item
  pub word_end : List Item
  pub ends : List Item
  pub dot : List Item
  pub table_passed : Keyword (codes "TABLE") all title
  pub name_read : Named T.name title word_for
  pub for_passed : Keyword (codes "FOR") word_for root
  pub root_read : Named T.root root semicolon
  pub semicolon_passed : Passes sym.Semicolon semicolon word_roles
  pub roles_passed : Keyword (codes "ROLES") word_roles roles
  pub roles_read : MoreRoles (record { reset = None; loaded = None }) roles (record { reset = Some T.reset; loaded = T.loaded }) word_state
  pub state_passed : Keyword (codes "STATE") word_state states
  pub states_read : MoreStates [] states T.states word_invariant
  pub invariant_passed : Keyword (codes "INVARIANT") word_invariant invariant
  pub invariant_read : Ended invariant T.invariant word_boundary
  pub boundary_passed : Keyword (codes "BOUNDARY") word_boundary boundary
  pub boundary_read : Ended boundary T.boundary word_start
  pub start_passed : Keyword (codes "START") word_start starts
  pub starts_read : MoreStarts [] starts T.starts classes
  pub classes_read : MoreClasses [] classes T.classes word_end
  pub end_passed : Passes sym.End word_end ends
  pub ends_read : Named T.ends ends dot
  pub dot_passed : Passes sym.Dot dot []
