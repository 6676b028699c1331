-- The grammar of tables, rule by rule: `Rule all tree rest` says that `all` begins with what the rule
-- spells, and that `rest` stands behind it. Expressions, types and names are those of the Lola profile.
use Rattle.std.specs.Prelude.{◌≡◌, ℕ, Bool, true, false, cond, bytes_eq, nat_eq, List, [], ◌∷◌, ◌++◌, filter, codes, Option, Some, None}
use Rattle.lola_tree.specs.declared.named.Named.{Named}
use Rattle.lola_tree.specs.Tree.{ActualTree}
use Rattle.lola_parse.specs.declared.symbol.Symbol.{Symbol}
use Rattle.lola_parse.specs.declared.symbol.Symbol.TheVariants as sym
use Rattle.lola_parse.specs.declared.symbol.Language.TheVariants.{Table}
use Rattle.lola_parse.specs.Symbols.{Item, is_number}
use Rattle.lola_parse.specs.Grammar.{Passes, Stands, Names, place_of}
use Rattle.lola_parse.specs.Design.{Outermost, Shaped}
use Rattle.tab_parse.specs.declared.placed.ActiveRole.{ActiveRole}
use Rattle.tab_parse.specs.declared.placed.ActiveRole.TheVariants as active
use Rattle.tab_parse.specs.declared.placed.PortRole.{PortRole}
use Rattle.tab_parse.specs.declared.placed.PortRole.TheVariants as port
use Rattle.tab_parse.specs.declared.placed.RoleWord.{RoleWord}
use Rattle.tab_parse.specs.declared.placed.RoleWord.TheVariants as word
use Rattle.tab_parse.specs.declared.classes.Pattern.{Pattern}
use Rattle.tab_parse.specs.Placed.{RoleAt, active_row, code_row, port_row, StateAt, LetAt, SetAt, TurnsAt, AccessAt, idle_at, take_at, load_at, store_at, fetch_at, PhaseAt, InsideAt, ClassAt, pattern_of, TableAt, HeadingAt, heading_of, ViewsAt, views_of, EffectsAt, effects_of}

-- a token of this symbol and spelling stands at the front, at this place, and the rest behind it
pub record Spelled (symbol : Symbol) (spelled : List ℕ) (at : ℕ) (all rest : List Item) : Type 0 where
  pub is_word : Bool
  pub splits : all ≡ record { symbol = symbol; is_word = is_word; spelled = spelled; at = at } ∷ rest

-- a word that tables reserve, wherever it stands
abbrev pub Keyword : List ℕ → List Item → List Item → Type 0
Keyword spelled all rest = (at : ℕ) × Spelled sym.TableWord spelled at all rest

-- a name, which isn't reserved in tables
abbrev pub NameAt : List Item → Named → List Item → Type 0
NameAt all n rest = Names n.name n.at all rest

-- any word, reserved or not
pub record WordAt (all : List Item) (n : Named) (rest : List Item) : Type 0 where
  pub symbol : Symbol
  pub no_number : is_number symbol ≡ false
  pub splits : all ≡ record { symbol = symbol; is_word = true; spelled = n.name; at = n.at } ∷ rest

-- a number, whose width doesn't count
pub record Numbered (all : List Item) (value : ℕ) (rest : List Item) : Type 0 where
  pub width : Option ℕ
  pub at : ℕ
  pub stands : Stands (sym.Number value width) at all rest

-- ":=", at this place
abbrev pub AssignAt : List Item → ℕ → List Item → Type 0
AssignAt all at rest = Stands sym.Assign at all rest

-- expr, with the place of its first token
pub record ExprAt (all : List Item) (e : ActualTree) (rest : List Item) : Type 0 where
  pub expr : Outermost Table all e.value rest
  pub place : e.at ≡ place_of all

-- expr ";"
pub record Ended (all : List Item) (e : ActualTree) (rest : List Item) : Type 0 where
  pub behind : List Item
  pub expr_read : ExprAt all e behind
  pub ended : Passes sym.Semicolon behind rest

-- {row}, behind the rows before it
pub data More {T : Type 0} (Row : List Item → T → List Item → Type 0) : List T → List Item → List T → List Item → Type 0 where
  no_row : {all rest : List Item} {before rows : List T} → rows ≡ before → rest ≡ all → More Row before all rows rest
  one_row : {all rest : List Item} {before rows : List T} {row : T} (behind : List Item) → Row all row behind →
      More Row (before ++ row ∷ []) behind rows rest → More Row before all rows rest

-- the roles that words say; BYTE is a word of types too
abbrev pub word_says : List ℕ → Option RoleWord
word_says w =
    cond (bytes_eq w (codes "RESET")) (Some (word.Active active.Reset))
    (cond (bytes_eq w (codes "STALL")) (Some (word.Active active.Stall))
    (cond (bytes_eq w (codes "CODE")) (Some word.Code)
    (cond (bytes_eq w (codes "FETCHED")) (Some (word.Port port.Fetched))
    (cond (bytes_eq w (codes "LOADED")) (Some (word.Port port.Loaded))
    (cond (bytes_eq w (codes "READ")) (Some (word.Port port.Read))
    (cond (bytes_eq w (codes "WRITE")) (Some (word.Port port.Write))
    (cond (bytes_eq w (codes "ADDRESS")) (Some (word.Port port.Address))
    (cond (bytes_eq w (codes "DATA")) (Some (word.Port port.Data)) None))))))))

abbrev pub role_says : Symbol → List ℕ → Option RoleWord
role_says sym.TableWord w = word_says w
role_says sym.Byte w = Some (word.Port port.Byte)
role_says other w = None

-- word "=" number ";", behind RESET or STALL
pub record ActiveBehind (role : ActiveRole) (at : ℕ) (all : List Item) (row : RoleAt) (rest : List Item) : Type 0 where
  pub port : Named
  pub value : ℕ
  pub sign : List Item
  pub behind : List Item
  pub ended : List Item
  pub port_read : WordAt all port sign
  pub sign_passed : Passes sym.Equal sign behind
  pub value_read : Numbered behind value ended
  pub ended_passed : Passes sym.Semicolon ended rest
  pub row_is : row ≡ active_row role at port value

-- expr ";", behind CODE
pub record CodeBehind (at : ℕ) (all : List Item) (row : RoleAt) (rest : List Item) : Type 0 where
  pub shown : ActualTree
  pub shown_read : Ended all shown rest
  pub row_is : row ≡ code_row at shown

-- word ";", behind the word of another role
pub record PortBehind (role : PortRole) (at : ℕ) (all : List Item) (row : RoleAt) (rest : List Item) : Type 0 where
  pub port : Named
  pub ended : List Item
  pub port_read : WordAt all port ended
  pub ended_passed : Passes sym.Semicolon ended rest
  pub row_is : row ≡ port_row role at port

abbrev pub RoleBehind : RoleWord → ℕ → List Item → RoleAt → List Item → Type 0
RoleBehind (word.Active role) at all row rest = ActiveBehind role at all row rest
RoleBehind word.Code at all row rest = CodeBehind at all row rest
RoleBehind (word.Port role) at all row rest = PortBehind role at all row rest

-- role = ("RESET" | "STALL") word "=" number ";" | "CODE" expr ";" | ("FETCHED" | "LOADED" | "READ" | "WRITE" | "ADDRESS" | "BYTE" | "DATA") word ";"
pub record RoleRow (all : List Item) (row : RoleAt) (rest : List Item) : Type 0 where
  pub symbol : Symbol
  pub spelled : List ℕ
  pub at : ℕ
  pub role : RoleWord
  pub first : List Item
  pub word_passed : Spelled symbol spelled at all first
  pub word_is : role_says symbol spelled ≡ Some role
  pub row_read : RoleBehind role at first row rest

-- state = name ":" type "IS" expr ";"
pub record StateRow (all : List Item) (row : StateAt) (rest : List Item) : Type 0 where
  pub colon : List Item
  pub behind : List Item
  pub word : List Item
  pub first : List Item
  pub name_read : NameAt all row.name colon
  pub colon_passed : Passes sym.Colon colon behind
  pub shape_read : Shaped behind row.shape word
  pub word_passed : Keyword (codes "IS") word first
  pub shown_read : Ended first row.shown rest

-- name "IS" expr ";"
pub record LetRow (all : List Item) (row : LetAt) (rest : List Item) : Type 0 where
  pub word : List Item
  pub first : List Item
  pub name_read : NameAt all row.name word
  pub word_passed : Keyword (codes "IS") word first
  pub value_read : Ended first row.value rest

-- ["FIELDS" {name "IS" expr ";"}]
pub data Fields (all : List Item) (fields : List LetAt) (rest : List Item) : Type 0 where
  no_fields : fields ≡ [] → rest ≡ all → Fields all fields rest
  some_fields : (first : List Item) → Keyword (codes "FIELDS") all first → More LetRow [] first fields rest → Fields all fields rest

-- name ":=" expr ";" of START
pub record StartRow (all : List Item) (row : SetAt) (rest : List Item) : Type 0 where
  pub sign : List Item
  pub behind : List Item
  pub name_read : NameAt all row.name sign
  pub no_place : row.place ≡ None
  pub sign_passed : AssignAt sign row.equals behind
  pub value_read : Ended behind row.value rest

-- ["FETCH" expr ";"]
pub data StartFetch (all : List Item) (fetch : Option ActualTree) (rest : List Item) : Type 0 where
  no_fetch : fetch ≡ None → rest ≡ all → StartFetch all fetch rest
  one_fetch : (e : ActualTree) (first : List Item) → Keyword (codes "FETCH") all first → Ended first e rest → fetch ≡ Some e → StartFetch all fetch rest

-- ["[" expr "]"], with the place of the "["
pub data Placing (all : List Item) (place : Option ActualTree) (rest : List Item) : Type 0 where
  no_place : place ≡ None → rest ≡ all → Placing all place rest
  one_place : {e : ActualTree} {at : ℕ} (first close : List Item) → Stands sym.OpenBracket at all first → ExprAt first e close →
      Passes sym.CloseBracket close rest → place ≡ Some (record { value = e.value; at = at }) → Placing all place rest

-- set = name ":=" expr | name "[" expr "]" ":=" expr
pub record SetPart (all : List Item) (row : SetAt) (rest : List Item) : Type 0 where
  pub bracket : List Item
  pub sign : List Item
  pub behind : List Item
  pub name_read : NameAt all row.name bracket
  pub place_read : Placing bracket row.place sign
  pub sign_passed : AssignAt sign row.equals behind
  pub value_read : ExprAt behind row.value rest

-- "LET" name "IS" expr ";"
pub record LetLine (all : List Item) (row : LetAt) (rest : List Item) : Type 0 where
  pub first : List Item
  pub word_passed : Keyword (codes "LET") all first
  pub row_read : LetRow first row rest

-- "SET" set ";"
pub record SetLine (all : List Item) (row : SetAt) (rest : List Item) : Type 0 where
  pub first : List Item
  pub ended : List Item
  pub word_passed : Keyword (codes "SET") all first
  pub row_read : SetPart first row ended
  pub ended_passed : Passes sym.Semicolon ended rest

-- "," set
pub record NextSet (all : List Item) (row : SetAt) (rest : List Item) : Type 0 where
  pub first : List Item
  pub comma_passed : Passes sym.Comma all first
  pub row_read : SetPart first row rest

-- set {"," set}
pub record SetList (all : List Item) (rows : List SetAt) (rest : List Item) : Type 0 where
  pub row : SetAt
  pub behind : List Item
  pub first_read : SetPart all row behind
  pub more_read : More NextSet (row ∷ []) behind rows rest

-- ["SHOWS" set {"," set}]
pub data Shows (all : List Item) (rows : List SetAt) (rest : List Item) : Type 0 where
  no_shows : rows ≡ [] → rest ≡ all → Shows all rows rest
  some_shows : (first : List Item) → Keyword (codes "SHOWS") all first → SetList first rows rest → Shows all rows rest

-- number "OF" type "FROM" expr "STEP" expr, behind TURNS
pub record TurnsBehind (all : List Item) (t : TurnsAt) (rest : List Item) : Type 0 where
  pub word_of : List Item
  pub type : List Item
  pub word_from : List Item
  pub first : List Item
  pub word_step : List Item
  pub second : List Item
  pub times_read : Numbered all t.times word_of
  pub of_passed : Keyword (codes "OF") word_of type
  pub shape_read : Shaped type t.shape word_from
  pub shape_place : t.shape_at ≡ place_of type
  pub from_passed : Keyword (codes "FROM") word_from first
  pub first_read : ExprAt first t.first word_step
  pub step_passed : Keyword (codes "STEP") word_step second
  pub step_read : ExprAt second t.step rest

-- ["TURNS" ..]
pub data MaybeTurns (all : List Item) (turns : Option TurnsAt) (rest : List Item) : Type 0 where
  no_turns : turns ≡ None → rest ≡ all → MaybeTurns all turns rest
  some_turns : (t : TurnsAt) (first : List Item) → Keyword (codes "TURNS") all first → TurnsBehind first t rest → turns ≡ Some t → MaybeTurns all turns rest

-- [word expr]
pub data MaybeExpr (Word : List Item → List Item → Type 0) (all : List Item) (e : Option ActualTree) (rest : List Item) : Type 0 where
  no_expr : e ≡ None → rest ≡ all → MaybeExpr Word all e rest
  one_expr : (value : ActualTree) (first : List Item) → Word all first → ExprAt first value rest → e ≡ Some value → MaybeExpr Word all e rest

-- expr ["BYTE" expr] "DATA" expr, behind STORE
pub record StoreBehind (all : List Item) (access : AccessAt) (rest : List Item) : Type 0 where
  pub adr : ActualTree
  pub byte : Option ActualTree
  pub word : ActualTree
  pub word_byte : List Item
  pub word_data : List Item
  pub first : List Item
  pub adr_read : ExprAt all adr word_byte
  pub byte_read : MaybeExpr (Passes sym.Byte) word_byte byte word_data
  pub data_passed : Keyword (codes "DATA") word_data first
  pub word_read : ExprAt first word rest
  pub access_is : access ≡ store_at adr byte word

-- expr ["BYTE" expr], behind LOAD
pub record LoadBehind (all : List Item) (access : AccessAt) (rest : List Item) : Type 0 where
  pub adr : ActualTree
  pub byte : Option ActualTree
  pub word_byte : List Item
  pub adr_read : ExprAt all adr word_byte
  pub byte_read : MaybeExpr (Passes sym.Byte) word_byte byte rest
  pub access_is : access ≡ load_at adr byte

-- [expr ["BYTE" expr]], behind LOAD
pub data LoadRead (all : List Item) (access : AccessAt) (rest : List Item) : Type 0 where
  takes : access ≡ take_at → rest ≡ all → LoadRead all access rest
  loads : LoadBehind all access rest → LoadRead all access rest

-- access = "LOAD" [expr ["BYTE" expr]] | "STORE" expr ["BYTE" expr] "DATA" expr | "FETCH" expr, or none
pub data Access (all : List Item) (access : AccessAt) (rest : List Item) : Type 0 where
  idle : access ≡ idle_at → rest ≡ all → Access all access rest
  loaded : (first : List Item) → Keyword (codes "LOAD") all first → LoadRead first access rest → Access all access rest
  stored : (first : List Item) → Keyword (codes "STORE") all first → StoreBehind first access rest → Access all access rest
  fetched : (adr : ActualTree) (first : List Item) → Keyword (codes "FETCH") all first → ExprAt first adr rest → access ≡ fetch_at adr → Access all access rest

-- phase = "PHASE" ["TURNS" number "OF" type "FROM" expr "STEP" expr] [access] ["SHOWS" set {"," set}] ["LINK" expr] ";"
pub record PhaseRow (all : List Item) (phase : PhaseAt) (rest : List Item) : Type 0 where
  pub first : List Item
  pub second : List Item
  pub third : List Item
  pub fourth : List Item
  pub ended : List Item
  pub word_passed : Keyword (codes "PHASE") all first
  pub turns_read : MaybeTurns first phase.turns second
  pub access_read : Access second phase.access third
  pub shows_read : Shows third phase.shows fourth
  pub link_read : MaybeExpr (Keyword (codes "LINK")) fourth phase.link ended
  pub ended_passed : Passes sym.Semicolon ended rest

-- phase {phase}
pub record PhaseList (all : List Item) (phases : List PhaseAt) (rest : List Item) : Type 0 where
  pub phase : PhaseAt
  pub behind : List Item
  pub first_read : PhaseRow all phase behind
  pub more_read : More PhaseRow (phase ∷ []) behind phases rest

-- the places of a pattern: neither its quotes nor blanks count
abbrev pub is_place : ℕ → Bool
is_place b = cond (nat_eq b 45) true (cond (nat_eq b 48) true (nat_eq b 49))

-- a pattern, with its place
pub record Patterned (all : List Item) (pattern : Pattern) (rest : List Item) : Type 0 where
  pub is_word : Bool
  pub spelled : List ℕ
  pub splits : all ≡ record { symbol = sym.Pattern; is_word = is_word; spelled = spelled; at = pattern.at } ∷ rest
  pub places : pattern.places ≡ filter is_place spelled

-- {"LET" ..} phase {phase} {"SET" ..}
pub record Steps (all : List Item) (inside : InsideAt) (rest : List Item) : Type 0 where
  pub first : List Item
  pub sets : List Item
  pub lets_read : More LetLine [] all inside.lets first
  pub phases_read : PhaseList first inside.phases sets
  pub sets_read : More SetLine [] sets inside.sets rest

-- name pattern ";", behind OUTSIDE
pub record OutsideBehind (all : List Item) (class : ClassAt) (rest : List Item) : Type 0 where
  pub pattern : List Item
  pub behind : List Item
  pub name_read : NameAt all class.name pattern
  pub pattern_read : Patterned pattern (pattern_of class) behind
  pub ended_passed : Passes sym.Semicolon behind rest
  pub no_steps : class.inside ≡ None

-- name pattern {"LET" ..} phase {phase} {"SET" ..}, behind CLASS
pub record InsideBehind (all : List Item) (class : ClassAt) (rest : List Item) : Type 0 where
  pub steps : InsideAt
  pub pattern : List Item
  pub behind : List Item
  pub name_read : NameAt all class.name pattern
  pub pattern_read : Patterned pattern (pattern_of class) behind
  pub steps_read : Steps behind steps rest
  pub some_steps : class.inside ≡ Some steps

-- class = "OUTSIDE" name pattern ";" | "CLASS" name pattern {"LET" name "IS" expr ";"} phase {phase} {"SET" set ";"}
pub data ClassRow (all : List Item) (class : ClassAt) (rest : List Item) : Type 0 where
  outside : (first : List Item) → Keyword (codes "OUTSIDE") all first → OutsideBehind first class rest → ClassRow all class rest
  inside : (first : List Item) → Keyword (codes "CLASS") all first → InsideBehind first class rest → ClassRow all class rest

-- "TABLE" name "FOR" name ";" "ROLES" {role}
pub record Headed (all : List Item) (heading : HeadingAt) (rest : List Item) : Type 0 where
  pub title : List Item
  pub word_for : List Item
  pub root : List Item
  pub semicolon : List Item
  pub word_roles : List Item
  pub roles : List Item
  pub table_passed : Keyword (codes "TABLE") all title
  pub name_read : NameAt title heading.name word_for
  pub for_passed : Keyword (codes "FOR") word_for root
  pub root_read : NameAt root heading.root semicolon
  pub semicolon_passed : Passes sym.Semicolon semicolon word_roles
  pub roles_passed : Keyword (codes "ROLES") word_roles roles
  pub roles_read : More RoleRow [] roles heading.roles rest

-- "STATE" {state} ["FIELDS" {name "IS" expr ";"}] "INVARIANT" expr ";" "BOUNDARY" expr ";"
pub record Viewed (all : List Item) (views : ViewsAt) (rest : List Item) : Type 0 where
  pub states : List Item
  pub word_fields : List Item
  pub word_invariant : List Item
  pub invariant : List Item
  pub word_boundary : List Item
  pub boundary : List Item
  pub state_passed : Keyword (codes "STATE") all states
  pub states_read : More StateRow [] states views.states word_fields
  pub fields_read : Fields word_fields views.fields word_invariant
  pub invariant_passed : Keyword (codes "INVARIANT") word_invariant invariant
  pub invariant_read : Ended invariant views.invariant word_boundary
  pub boundary_passed : Keyword (codes "BOUNDARY") word_boundary boundary
  pub boundary_read : Ended boundary views.boundary rest

-- "START" {name ":=" expr ";"} ["FETCH" expr ";"] {class}
pub record Effected (all : List Item) (effects : EffectsAt) (rest : List Item) : Type 0 where
  pub starts : List Item
  pub word_fetch : List Item
  pub classes : List Item
  pub start_passed : Keyword (codes "START") all starts
  pub starts_read : More StartRow [] starts effects.starts word_fetch
  pub fetch_read : StartFetch word_fetch effects.start_fetch classes
  pub classes_read : More ClassRow [] classes effects.classes rest

-- "END" name "." to the end
pub record Ending (all : List Item) (name : Named) : Type 0 where
  pub ends : List Item
  pub dot : List Item
  pub end_passed : Passes sym.End all ends
  pub ends_read : NameAt ends name dot
  pub dot_passed : Passes sym.Dot dot []

-- table = "TABLE" name "FOR" name ";" "ROLES" {role} "STATE" {state} ["FIELDS" {name "IS" expr ";"}] "INVARIANT" expr ";"
--         "BOUNDARY" expr ";" "START" {name ":=" expr ";"} ["FETCH" expr ";"] {class} "END" name "." to the end
pub record SpellsTable (all : List Item) (T : TableAt) : Type 0 where
  pub word_state : List Item
  pub word_start : List Item
  pub word_end : List Item
  pub headed : Headed all (heading_of T) word_state
  pub viewed : Viewed word_state (views_of T) word_start
  pub effected : Effected word_start (effects_of T) word_end
  pub ending : Ending word_end T.ends
