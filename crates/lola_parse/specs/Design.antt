-- The grammar of designs, rule by rule, as that of expressions.
use Rattle.std.specs.Prelude.{◌≡◌, ℕ, ◌+◌, ◌<◌, ◌≤◌, List, [], ◌∷◌, ◌++◌, map, length, drop, Option, Some, None}
use Rattle.lola_tree.specs.declared.named.Named.{Named}
use Rattle.lola_tree.specs.declared.named.Count.{Count}
use Rattle.lola_tree.specs.declared.named.Count.TheVariants as count
use Rattle.lola_tree.specs.declared.named.Shape.{Shape}
use Rattle.lola_tree.specs.declared.named.Shape.TheVariants as shape
use Rattle.lola_tree.specs.declared.module.Way.{Way}
use Rattle.lola_tree.specs.declared.module.Way.TheVariants.{Inward, Outward, Both}
use Rattle.lola_tree.specs.declared.module.Port.{Port}
use Rattle.lola_tree.specs.declared.module.Const.{Const}
use Rattle.lola_tree.specs.declared.module.LocalKind.{LocalKind}
use Rattle.lola_tree.specs.declared.module.LocalKind.TheVariants.{Reg, Var, Inst}
use Rattle.lola_tree.specs.declared.module.Local.{Local}
use Rattle.lola_tree.specs.Tree.{Tree, ActualTree, StmtTree, assignment, call, pad, ModuleTree, SourceTree}
use Rattle.lola_parse.specs.declared.symbol.Symbol.{Symbol}
use Rattle.lola_parse.specs.declared.symbol.Symbol.TheVariants as sym
use Rattle.lola_parse.specs.declared.symbol.Language.TheVariants.{Design}
use Rattle.lola_parse.specs.declared.symbol.Language.{Language}
use Rattle.lola_scan.specs.declared.token.Token.{Token}
use Rattle.lola_parse.specs.Symbols.{Item, items_of}
use Rattle.lola_parse.specs.Grammar.{Stands, Names, Counted, Expression, place_of}

-- an outermost expression has at most 512 tokens
pub record Outermost (l : Language) (all : List Item) (e : Tree) (rest : List Item) : Type 0 where
  pub expr : Expression l all e rest
  pub within : length all ≤ length rest + 512

-- an expression as an argument, with the place of its first token
pub data Argument : List Item → ActualTree → List Item → Type 0 where
  argument : {all rest : List Item} {a : ActualTree} (e : Tree) → Outermost Design all e rest → a ≡ record { value = e; at = place_of all } →
      Argument all a rest

-- {"," expr}
pub data MoreArguments : List ActualTree → List Item → List ActualTree → List Item → Type 0 where
  no_argument : {all rest : List Item} {before args : List ActualTree} → args ≡ before → rest ≡ all → MoreArguments before all args rest
  one_argument : {all rest : List Item} {before args : List ActualTree} {a : ActualTree} {at : ℕ} (first behind : List Item) → Stands sym.Comma at all first →
      Argument first a behind → MoreArguments (before ++ a ∷ []) behind args rest → MoreArguments before all args rest

-- stmt = name ":=" expr | name "[" expr "]" ":=" expr | name "(" expr {"," expr} ")"
--        | "TS" "(" name "," name "," expr "," expr ")"
pub data Statement : List Item → StmtTree → List Item → Type 0 where
  assigned : {all rest : List Item} {t : StmtTree} {name : List ℕ} {e : Tree} {at equals : ℕ} (sign behind : List Item) → Names name at all sign →
      Stands sym.Assign equals sign behind → Outermost Design behind e rest → t ≡ assignment name None e at equals → Statement all t rest
  placed : {all rest : List Item} {t : StmtTree} {name : List ℕ} {e place : Tree} {at place_at close_at equals : ℕ} (bracket first close sign behind : List Item) →
      Names name at all bracket → Stands sym.OpenBracket place_at bracket first → Outermost Design first place close →
      Stands sym.CloseBracket close_at close sign → Stands sym.Assign equals sign behind → Outermost Design behind e rest →
      t ≡ assignment name (Some record { value = place; at = place_at }) e at equals → Statement all t rest
  called : {all rest : List Item} {t : StmtTree} {name : List ℕ} {a : ActualTree} {args : List ActualTree} {at open_at close_at : ℕ}
      (paren first behind close : List Item) → Names name at all paren → Stands sym.OpenParen open_at paren first → Argument first a behind →
      MoreArguments (a ∷ []) behind args close → Stands sym.CloseParen close_at close rest → t ≡ call name args at → Statement all t rest
  driven : {all rest : List Item} {t : StmtTree} {io inner : Named} {value release : ActualTree} {at open_at comma_at second_at third_at close_at : ℕ}
      (paren first comma second comma2 third comma3 fourth close : List Item) → Stands sym.Ts at all paren → Stands sym.OpenParen open_at paren first →
      Names io.name io.at first comma → Stands sym.Comma comma_at comma second → Names inner.name inner.at second comma2 →
      Stands sym.Comma second_at comma2 third → Argument third value comma3 → Stands sym.Comma third_at comma3 fourth → Argument fourth release close →
      Stands sym.CloseParen close_at close rest → t ≡ pad io inner value release at → Statement all t rest

-- [stmt], behind the statements before it
pub data Optional (before : List StmtTree) (all : List Item) : List StmtTree → List Item → Type 0 where
  empty : {body : List StmtTree} {rest : List Item} → body ≡ before → rest ≡ all → Optional before all body rest
  one_statement : {body : List StmtTree} {rest : List Item} (t : StmtTree) → Statement all t rest → body ≡ before ++ t ∷ [] → Optional before all body rest

-- {";" [stmt]}
pub data MoreStatements : List StmtTree → List Item → List StmtTree → List Item → Type 0 where
  no_statement : {all rest : List Item} {before body : List StmtTree} → body ≡ before → rest ≡ all → MoreStatements before all body rest
  next_statement : {all rest : List Item} {before longer body : List StmtTree} {at : ℕ} (first behind : List Item) → Stands sym.Semicolon at all first →
      Optional before first longer behind → MoreStatements longer behind body rest → MoreStatements before all body rest

-- [stmt] {";" [stmt]}
pub data Body : List Item → List StmtTree → List Item → Type 0 where
  statements : {all rest : List Item} {first body : List StmtTree} (behind : List Item) → Optional [] all first behind →
      MoreStatements first behind body rest → Body all body rest

-- ["BEGIN" [stmt] {";" [stmt]}]
pub data Begun (all : List Item) : List StmtTree → List Item → Type 0 where
  no_body : {body : List StmtTree} {rest : List Item} → body ≡ [] → rest ≡ all → Begun all body rest
  begun : {body : List StmtTree} {rest : List Item} {at : ℕ} (behind : List Item) → Stands sym.Begin at all behind → Body behind body rest → Begun all body rest

-- {"," name}
pub data MoreNames : List Named → List Item → List Named → List Item → Type 0 where
  no_name : {all rest : List Item} {before names : List Named} → names ≡ before → rest ≡ all → MoreNames before all names rest
  one_name : {all rest : List Item} {before names : List Named} {n : Named} {at : ℕ} (first behind : List Item) → Stands sym.Comma at all first →
      Names n.name n.at first behind → MoreNames (before ++ n ∷ []) behind names rest → MoreNames before all names rest

-- name {"," name}
pub data NameList : List Item → List Named → List Item → Type 0 where
  name_list : {all rest : List Item} {names : List Named} {n : Named} (behind : List Item) → Names n.name n.at all behind →
      MoreNames (n ∷ []) behind names rest → NameList all names rest

-- the widths that words say
abbrev pub width_of : Symbol → Option ℕ
width_of sym.Bit = Some 1
width_of sym.Byte = Some 8
width_of sym.Word = Some 32
width_of other = None

-- type = "BIT" | "BYTE" | "WORD" | "[" count "]" ("BIT" | "BYTE" | "WORD" | "[" count "]" "BIT")
pub data Shaped : List Item → Shape → List Item → Type 0 where
  vector : {all rest : List Item} {t : Shape} {symbol : Symbol} {width at : ℕ} → Stands symbol at all rest → width_of symbol ≡ Some width →
      t ≡ shape.Vector (count.Fixed width at) → Shaped all t rest
  bits : {all rest : List Item} {t : Shape} {width : Count} {at close_at bit_at : ℕ} (first close behind : List Item) → Stands sym.OpenBracket at all first →
      Counted Design first width close → Stands sym.CloseBracket close_at close behind → Stands sym.Bit bit_at behind rest → t ≡ shape.Vector width →
      Shaped all t rest
  bytes : {all rest : List Item} {t : Shape} {number : Count} {at close_at byte_at : ℕ} (first close behind : List Item) → Stands sym.OpenBracket at all first →
      Counted Design first number close → Stands sym.CloseBracket close_at close behind → Stands sym.Byte byte_at behind rest →
      t ≡ shape.Array number (count.Fixed 8 byte_at) → Shaped all t rest
  words : {all rest : List Item} {t : Shape} {number : Count} {at close_at word_at : ℕ} (first close behind : List Item) → Stands sym.OpenBracket at all first →
      Counted Design first number close → Stands sym.CloseBracket close_at close behind → Stands sym.Word word_at behind rest →
      t ≡ shape.Array number (count.Fixed 32 word_at) → Shaped all t rest
  vectors : {all rest : List Item} {t : Shape} {number width : Count} {at close_at second_at close2_at bit_at : ℕ}
      (first close second third close2 behind : List Item) → Stands sym.OpenBracket at all first → Counted Design first number close →
      Stands sym.CloseBracket close_at close second → Stands sym.OpenBracket second_at second third → Counted Design third width close2 →
      Stands sym.CloseBracket close2_at close2 behind → Stands sym.Bit bit_at behind rest → t ≡ shape.Array number width → Shaped all t rest

-- the directions that words say
abbrev pub way_of : Symbol → Option Way
way_of sym.In = Some Inward
way_of sym.Out = Some Outward
way_of sym.Inout = Some Both
way_of other = None

abbrev pub port_of : Way → Shape → Named → Port
port_of way t n = record { way = way; name = n.name; shape = t; at = n.at }

-- name {"," name} ":" type, under a direction and behind the ports before
pub data Group (way : Way) (before : List Port) (all : List Item) : List Port → List Item → Type 0 where
  group : {ports : List Port} {rest : List Item} {t : Shape} {names : List Named} {at : ℕ} (colon behind : List Item) → NameList all names colon →
      Stands sym.Colon at colon behind → Shaped behind t rest → ports ≡ before ++ map (port_of way t) names → Group way before all ports rest

-- ["IN" | "OUT" | "INOUT"], or the direction of the group before
pub data Directed (before : Way) (all : List Item) : Way → List Item → Type 0 where
  as_before : {way : Way} {rest : List Item} → way ≡ before → rest ≡ all → Directed before all way rest
  said : {way : Way} {rest : List Item} {symbol : Symbol} {at : ℕ} → Stands symbol at all rest → way_of symbol ≡ Some way → Directed before all way rest

-- {";" ports}
pub data MoreGroups : Way → List Port → List Item → List Port → List Item → Type 0 where
  no_group : {way : Way} {all rest : List Item} {before ports : List Port} → ports ≡ before → rest ≡ all → MoreGroups way before all ports rest
  one_group : {way next : Way} {all rest : List Item} {before longer ports : List Port} {at : ℕ} (first second behind : List Item) → Stands sym.Semicolon at all first →
      Directed way first next second → Group next before second longer behind → MoreGroups next longer behind ports rest → MoreGroups way before all ports rest

-- [ports {";" ports}], where the first group has a direction word
pub data Ports (all : List Item) : List Port → List Item → Type 0 where
  no_port : {ports : List Port} {rest : List Item} → ports ≡ [] → rest ≡ all → Ports all ports rest
  some_ports : {ports first : List Port} {rest : List Item} {symbol : Symbol} {way : Way} {at : ℕ} (second behind : List Item) → Stands symbol at all second →
      way_of symbol ≡ Some way → Group way [] second first behind → MoreGroups way first behind ports rest → Ports all ports rest

-- name ":=" number ";"
pub data Constant : List Item → Const → List Item → Type 0 where
  constant : {all rest : List Item} {c : Const} {name : List ℕ} {value at sign_at number_at semicolon_at : ℕ} {width : Option ℕ}
      (sign behind semicolon : List Item) → Names name at all sign → Stands sym.Assign sign_at sign behind →
      Stands (sym.Number value width) number_at behind semicolon → Stands sym.Semicolon semicolon_at semicolon rest →
      c ≡ record { name = name; value = value; width = width; at = at; number_at = number_at } → Constant all c rest

-- {name ":=" number ";"}
pub data MoreConstants : List Const → List Item → List Const → List Item → Type 0 where
  no_constant : {all rest : List Item} {before consts : List Const} → consts ≡ before → rest ≡ all → MoreConstants before all consts rest
  one_constant : {all rest : List Item} {before consts : List Const} {c : Const} (behind : List Item) → Constant all c behind →
      MoreConstants (before ++ c ∷ []) behind consts rest → MoreConstants before all consts rest

abbrev pub local_of : LocalKind → Named → Local
local_of kind n = record { kind = kind; name = n.name; at = n.at }

-- name {"," name} ":" type ";", under a clock and behind the locals before
pub data RegisterRow (clock : Named) (before : List Local) (all : List Item) : List Local → List Item → Type 0 where
  register_row : {locals : List Local} {rest : List Item} {t : Shape} {names : List Named} {at semicolon_at : ℕ} (colon behind semicolon : List Item) →
      NameList all names colon → Stands sym.Colon at colon behind → Shaped behind t semicolon → Stands sym.Semicolon semicolon_at semicolon rest →
      locals ≡ before ++ map (local_of (Reg clock t)) names → RegisterRow clock before all locals rest

-- {regrow}
pub data MoreRegisters (clock : Named) : List Local → List Item → List Local → List Item → Type 0 where
  no_register : {all rest : List Item} {before locals : List Local} → locals ≡ before → rest ≡ all → MoreRegisters clock before all locals rest
  next_register : {all rest : List Item} {before longer locals : List Local} (behind : List Item) → RegisterRow clock before all longer behind →
      MoreRegisters clock longer behind locals rest → MoreRegisters clock before all locals rest

-- "(" name ")" regrow {regrow}, behind REG and the locals before
pub data Registers (before : List Local) (all : List Item) : List Local → List Item → Type 0 where
  registers : {locals longer : List Local} {rest : List Item} {clock : Named} {at close_at : ℕ} (first close second behind : List Item) →
      Stands sym.OpenParen at all first → Names clock.name clock.at first close → Stands sym.CloseParen close_at close second →
      RegisterRow clock before second longer behind → MoreRegisters clock longer behind locals rest → Registers before all locals rest

-- type | name
pub data VariableKind (all : List Item) : LocalKind → List Item → Type 0 where
  variable : {kind : LocalKind} {rest : List Item} (t : Shape) → Shaped all t rest → kind ≡ Var t → VariableKind all kind rest
  instance : {kind : LocalKind} {rest : List Item} (n : Named) → Names n.name n.at all rest → kind ≡ Inst n → VariableKind all kind rest

-- name {"," name} ":" (type | name) ";", behind the locals before
pub data VariableRow (before : List Local) (all : List Item) : List Local → List Item → Type 0 where
  variable_row : {locals : List Local} {rest : List Item} {kind : LocalKind} {names : List Named} {at semicolon_at : ℕ} (colon behind semicolon : List Item) →
      NameList all names colon → Stands sym.Colon at colon behind → VariableKind behind kind semicolon → Stands sym.Semicolon semicolon_at semicolon rest →
      locals ≡ before ++ map (local_of kind) names → VariableRow before all locals rest

-- {name {"," name} ":" (type | name) ";"}, behind VAR and the locals before
pub data MoreVariables : List Local → List Item → List Local → List Item → Type 0 where
  no_variable : {all rest : List Item} {before locals : List Local} → locals ≡ before → rest ≡ all → MoreVariables before all locals rest
  next_variable : {all rest : List Item} {before longer locals : List Local} (behind : List Item) → VariableRow before all longer behind →
      MoreVariables longer behind locals rest → MoreVariables before all locals rest

-- {consts | regs | vars}, behind the constants and locals before
pub data Declarations : List Const → List Local → List Item → List Const → List Local → List Item → Type 0 where
  no_declaration : {all rest : List Item} {consts consts' : List Const} {locals locals' : List Local} → consts' ≡ consts → locals' ≡ locals → rest ≡ all →
      Declarations consts locals all consts' locals' rest
  with_constants : {all rest : List Item} {consts longer consts' : List Const} {locals locals' : List Local} {at : ℕ} (first behind : List Item) →
      Stands sym.Const at all first → MoreConstants consts first longer behind → Declarations longer locals behind consts' locals' rest →
      Declarations consts locals all consts' locals' rest
  with_registers : {all rest : List Item} {consts consts' : List Const} {locals longer locals' : List Local} {at : ℕ} (first behind : List Item) →
      Stands sym.Reg at all first → Registers locals first longer behind → Declarations consts longer behind consts' locals' rest →
      Declarations consts locals all consts' locals' rest
  with_variables : {all rest : List Item} {consts consts' : List Const} {locals longer locals' : List Local} {at : ℕ} (first behind : List Item) →
      Stands sym.Var at all first → MoreVariables locals first longer behind → Declarations consts longer behind consts' locals' rest →
      Declarations consts locals all consts' locals' rest

-- module = "MODULE" name "(" [ports {";" ports}] ")" ";" {consts | regs | vars}
--          ["BEGIN" [stmt] {";" [stmt]}] "END" name "."
pub data OneModule : List Item → ModuleTree → List Item → Type 0 where
  one_module : {all rest : List Item} {m : ModuleTree} {title ends : Named} {ports : List Port} {consts : List Const} {locals : List Local}
      {body : List StmtTree} {at open_at close_at semicolon_at end_at dot_at : ℕ}
      (first paren second close semicolon third fourth fifth sixth dot : List Item) → Stands sym.Module at all first →
      Names title.name title.at first paren → Stands sym.OpenParen open_at paren second → Ports second ports close →
      Stands sym.CloseParen close_at close semicolon → Stands sym.Semicolon semicolon_at semicolon third →
      Declarations [] [] third consts locals fourth → Begun fourth body fifth → Stands sym.End end_at fifth sixth → Names ends.name ends.at sixth dot →
      Stands sym.Dot dot_at dot rest →
      m ≡ record { name = title.name; ports = ports; consts = consts; locals = locals; body = body; ends = ends; at = title.at } → OneModule all m rest

-- {module}
pub data MoreModules : List ModuleTree → List Item → List ModuleTree → List Item → Type 0 where
  no_module : {all rest : List Item} {before modules : List ModuleTree} → modules ≡ before → rest ≡ all → MoreModules before all modules rest
  next_module : {all rest : List Item} {before modules : List ModuleTree} {m : ModuleTree} (behind : List Item) → OneModule all m behind →
      MoreModules (before ++ m ∷ []) behind modules rest → MoreModules before all modules rest

-- text = module {module}, to the end
pub data SpellsSource : List Item → SourceTree → Type 0 where
  spells : {all : List Item} {t : SourceTree} {m : ModuleTree} (behind : List Item) → OneModule all m behind → MoreModules (m ∷ []) behind t.modules [] →
      SpellsSource all t

-- from token number `from` of a text on stands an expression of at most 512 tokens, and behind it
-- stands token number n
pub record Reads (l : Language) (text : List ℕ) (tokens : List Token) (from : ℕ) (e : Tree) (n : ℕ) : Type 0 where
  pub after : from < n
  pub within : n ≤ length tokens
  pub outermost : Outermost l (items_of l text (drop from tokens)) e (items_of l text (drop n tokens))
