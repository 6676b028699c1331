-- Where ports, declarations or modules stand at the front and may end, their readers can only find their
-- parts.
use Rattle.std.proofs.Common.{◌≡◌, ℕ, ◌<◌, ◌≤◌, true, false, List, [], ◌∷◌, ◌++◌, map, length, Option, Some, None, refl, sym, ap, subst, ◌∙◌, arith}
use Rattle.lola_tree.specs.declared.named.Named.{Named}
use Rattle.lola_tree.specs.declared.named.Shape.{Shape}
use Rattle.lola_tree.specs.declared.module.Way.{Way}
use Rattle.lola_tree.specs.declared.module.Port.{Port}
use Rattle.lola_tree.specs.declared.module.Const.{Const}
use Rattle.lola_tree.specs.declared.module.LocalKind.{LocalKind}
use Rattle.lola_tree.specs.declared.module.LocalKind.TheVariants.{Reg, Var, Inst}
use Rattle.lola_tree.specs.declared.module.Local.{Local}
use Rattle.lola_tree.specs.Tree.{StmtTree, ModuleTree, SourceTree}
use Rattle.lola_parse.specs.declared.symbol.Symbol.{Symbol}
use Rattle.lola_parse.specs.declared.symbol.Symbol.TheVariants as s
use Rattle.lola_parse.specs.declared.cursor.Next.{Next}
use Rattle.lola_parse.specs.Symbols.{Item}
use Rattle.lola_parse.specs.Grammar.{Stands, Passes}
use Rattle.lola_parse.specs.Design.{Shaped, vector, bits, bytes, words, vectors, width_of, Body, Begun, no_body, begun, NameList, name_list, port_of, way_of, local_of, Group, group, Directed, as_before, said, MoreGroups, no_group, one_group, Ports, no_port, some_ports, Constant, constant, MoreConstants, no_constant, one_constant, RegisterRow, register_row, MoreRegisters, no_register, next_register, Registers, registers, VariableKind, variable, instance, VariableRow, variable_row, MoreVariables, no_variable, next_variable, Declarations, no_declaration, with_constants, with_registers, with_variables, OneModule, one_module, MoreModules, no_module, next_module, SpellsSource, spells}
use Rattle.lola_parse.specs.Behind.{NameRead, GroupsBehind, DeclaredRead}
use Rattle.lola_parse.specs.MayEnd.{Before, NoName, ends_declarations, DeclarationsEnd}
use Rattle.lola_parse.specs.Read.{front, Anywhere}
use Rattle.lola_parse.proofs.Fronts.{IsNextOf}
use Rattle.lola_parse.proofs.Follow.{one_front, front_is, name_stands, is_shorter}
use Rattle.lola_parse.proofs.Refer.{two_symbols}
use Rattle.lola_parse.proofs.Whole.{next_is}
use Rattle.lola_parse.proofs.Steps.{Symbol_then, Read_then, clash}

pub names_front : {all rest : List Item} {names : List Named} → NameList all names rest → front all ≡ s.Name
names_front (name_list behind first more) = front_is (name_stands first)

-- name {"," name} ":" and a kind, and then the rest of the row
abbrev pub Row_then : {T : Type 0} → (List Item → T → List Item → Type 0) → (List Named → T → List Item → Type 0) → List Item → Type 0
Row_then Kind Last all =
    Read_then (NameList all) (Before s.Colon) (λ names mid. Symbol_then s.Colon (λ mid. Read_then (Kind mid) Anywhere (Last names)) mid)

-- groups of ports
abbrev pub Group_last : Way → List Port → List Port → List Item → List Named → Shape → List Item → Type 0
Group_last way before ports rest names t all = (all ≡ rest) × (before ++ map (port_of way t) names ≡ ports)

pub group_step : {way : Way} {before ports : List Port} {all rest : List Item} → Group way before all ports rest → Row_then Shaped (Group_last way before ports rest) all
group_step {rest = rest} (group {t = t} {names = names} colon behind read stands shaped is) =
    (names, colon, read, front_is stands, (behind, (_, stands), (t, rest, shaped, tt, (refl, sym is))))

pub group_front : {way : Way} {before ports : List Port} {all rest : List Item} → Group way before all ports rest → front all ≡ s.Name
group_front (group colon behind read stands shaped is) = names_front read

pub directed_none : {before way : Way} {all rest : List Item} → Directed before all way rest → way_of (front all) ≡ None → (before ≡ way) × (all ≡ rest)
directed_none (as_before is none) over = (sym is, sym none)
directed_none {way = way} (said stands is) over = absurd (let e : None ≡ Some way = sym over ∙ (ap way_of (front_is stands) ∙ is) in cc)

pub directed_some : {before way next : Way} {all rest first : List Item} {symbol : Symbol} {at : ℕ} → Directed before all way rest → Before s.Name rest →
    Stands symbol at all first → way_of symbol ≡ Some next → (next ≡ way) × (first ≡ rest)
directed_some {next = next} (as_before is none) ends stands with =
    absurd (let e : None ≡ Some next = ap way_of (sym ends ∙ (ap front none ∙ front_is stands)) ∙ with in cc)
directed_some {way = way} {next = next} (said stood is) ends stands with =
    let f = one_front stands stood in
    (let one = is in let two = with in let three = ap way_of f.symbol_is in cc, f.rest_is)

abbrev pub Groups_then : Way → List Port → List Port → List Item → List Item → Type 0
Groups_then way before ports rest all = Read_then (Group way before all) Anywhere (λ longer mid. MoreGroups way longer mid ports rest)

pub groups_step : {way : Way} {ports : List Port} {all rest : List Item} → GroupsBehind way all ports rest → Groups_then way [] ports rest all
groups_step h = (h.first, h.behind, h.first_read, tt, h.more_read)

pub more_groups_step : {way : Way} {before ports : List Port} {all rest first : List Item} {at : ℕ} → MoreGroups way before all ports rest →
    Before s.CloseParen rest → Stands s.Semicolon at all first → Read_then (Directed way first) (Before s.Name) (λ next mid. Groups_then next before ports rest mid)
more_groups_step (no_group is none) ends stands = clash (front_is stands) (sym (ap front none) ∙ ends) (λ e. cc)
more_groups_step {way = way} (one_group {next = next} {longer = longer} one second behind stood directed read more) ends stands =
    (next, second, subst (λ all. Directed way all next second) (one_front stood stands).rest_is directed, group_front read, (longer, behind, read, tt, more))

pub more_groups_over : {way : Way} {before ports : List Port} {all rest : List Item} → MoreGroups way before all ports rest → (front all ≡ s.Semicolon → ⊥) →
    (before ≡ ports) × (all ≡ rest)
more_groups_over (no_group is none) over = (sym is, sym none)
more_groups_over (one_group one second behind stood directed read more) over = absurd (over (front_is stood))

pub ports_none : {ports : List Port} {all rest : List Item} → Ports all ports rest → way_of (front all) ≡ None → ([] ≡ ports) × (all ≡ rest)
ports_none (no_port is none) over = (sym is, sym none)
ports_none (some_ports {way = way} second behind stands is read more) over =
    absurd (let e : None ≡ Some way = sym over ∙ (ap way_of (front_is stands) ∙ is) in cc)

pub ports_step : {way : Way} {ports : List Port} {all rest first : List Item} {symbol : Symbol} {at : ℕ} → Ports all ports rest → Before s.CloseParen rest →
    Stands symbol at all first → way_of symbol ≡ Some way → Groups_then way [] ports rest first
ports_step {way = way} (no_port is none) ends stands says =
    absurd (let e : None ≡ Some way = ap way_of (sym ends ∙ (ap front none ∙ front_is stands)) ∙ says in cc)
ports_step {way = way} {ports = ports} {rest = rest} {first = first} (some_ports {first = one} {way = other} second behind stood says_other read more) ends stands says =
    let f = one_front stood stands in
    let same : other ≡ way = let one = says_other in let two = says in let three = ap way_of f.symbol_is in cc in
    subst (λ way. Groups_then way [] ports rest first) same
    (one, behind, subst (λ all. Group other [] all one behind) f.rest_is read, tt, more)

-- constants
abbrev pub Number_then : Const → List Item → Named → List Item → Type 0
Number_then c rest n all =
    (value : ℕ) × (width : Option ℕ) × (at : ℕ) × (behind : List Item) × (Stands (s.Number value width) at all behind) × (Passes s.Semicolon behind rest) ×
    (record { name = n.name; value = value; width = width; at = n.at; number_at = at } ≡ c)

pub constant_step : {all rest : List Item} {c : Const} → Constant all c rest →
    Read_then (NameRead all) Anywhere (λ n mid. Symbol_then s.Assign (Number_then c rest n) mid)
constant_step (constant {name = name} {value = value} {at = at} {number_at = number_at} {width = width} sign behind semicolon read stands number end is) =
    (record { name = name; at = at }, sign, read, tt, (behind, (_, stands), (value, width, number_at, semicolon, number, (_, end), sym is)))

pub number_semicolon : {c : Const} {all rest : List Item} {n : Named} (next : Next) → Number_then c rest n all → IsNextOf all next → Passes s.Semicolon next.rest rest
number_semicolon {all = all} {rest = rest} next w is = subst (λ behind. Passes s.Semicolon behind rest) (next_is all next is w.4).rest_is w.5

pub number_made : {c : Const} {all rest : List Item} {n : Named} {value : ℕ} {width : Option ℕ} (next : Next) → Number_then c rest n all → IsNextOf all next →
    next.symbol ≡ s.Number value width → record { name = n.name; value = value; width = width; at = n.at; number_at = next.at } ≡ c
number_made {c = c} {all = all} {n = n} {value = value} {width = width} next w is number =
    let f = next_is all next is w.4 in
    let e : s.Number w.0 w.1 ≡ s.Number value width = f.symbol_is ∙ number in
    let v : w.0 ≡ value = cc in
    let k : w.1 ≡ width = cc in
    subst (λ at. record { name = n.name; value = value; width = width; at = n.at; number_at = at } ≡ c) f.at_is
    (subst (λ width. record { name = n.name; value = value; width = width; at = n.at; number_at = w.2 } ≡ c) k
    (subst (λ value. record { name = n.name; value = value; width = w.1; at = n.at; number_at = w.2 } ≡ c) v w.6))

pub number_one : {c : Const} {all rest semicolon b : List Item} {n : Named} {value at semicolon_at : ℕ} {width : Option ℕ} → Stands (s.Number value width) at all semicolon →
    Stands s.Semicolon semicolon_at semicolon b → Number_then c rest n all →
    (record { name = n.name; value = value; width = width; at = n.at; number_at = at } ≡ c) × (b ≡ rest)
number_one {c = c} {rest = rest} {n = n} {value = value} {at = at} {width = width} number end w =
    let f = one_front w.4 number in
    let e : s.Number w.0 w.1 ≡ s.Number value width = f.symbol_is in
    let v : w.0 ≡ value = cc in
    let k : w.1 ≡ width = cc in (
      subst (λ at. record { name = n.name; value = value; width = width; at = n.at; number_at = at } ≡ c) f.at_is
          (subst (λ width. record { name = n.name; value = value; width = width; at = n.at; number_at = w.2 } ≡ c) k
          (subst (λ value. record { name = n.name; value = value; width = w.1; at = n.at; number_at = w.2 } ≡ c) v w.6)),
      (one_front end (subst (λ all. Stands s.Semicolon w.5.0 all rest) f.rest_is w.5.1)).rest_is,
    )

pub number_none : {c : Const} {all rest : List Item} {n : Named} (next : Next) → Number_then c rest n all → IsNextOf all next →
    ((value : ℕ) (width : Option ℕ) → next.symbol ≡ s.Number value width → ⊥) → ⊥
number_none {all = all} next w is none = none w.0 w.1 (sym (next_is all next is w.4).symbol_is)

pub constant_front : {all rest : List Item} {c : Const} → Constant all c rest → front all ≡ s.Name
constant_front (constant sign behind semicolon read stands number end is) = front_is (name_stands read)

pub more_constants_step : {all rest : List Item} {before consts : List Const} → MoreConstants before all consts rest → NoName rest → front all ≡ s.Name →
    Read_then (Constant all) Anywhere (λ c mid. MoreConstants (before ++ c ∷ []) mid consts rest)
more_constants_step (no_constant is none) ends name = absurd (ends (ap front none ∙ name))
more_constants_step (one_constant {c = c} behind read more) ends name = (c, behind, read, tt, more)

pub more_constants_over : {all rest : List Item} {before consts : List Const} → MoreConstants before all consts rest → (front all ≡ s.Name → ⊥) →
    (before ≡ consts) × (all ≡ rest)
more_constants_over (no_constant is none) over = (sym is, sym none)
more_constants_over (one_constant behind read more) over = absurd (over (constant_front read))

-- registers and variables
abbrev pub Local_last : {T : Type 0} → (T → LocalKind) → List Local → List Local → List Item → List Named → T → List Item → Type 0
Local_last kind_of before locals rest names t all = Symbol_then s.Semicolon (λ mid. (mid ≡ rest) × (before ++ map (local_of (kind_of t)) names ≡ locals)) all

pub register_step : {clock : Named} {before locals : List Local} {all rest : List Item} → RegisterRow clock before all locals rest →
    Row_then Shaped (Local_last (Reg clock) before locals rest) all
register_step {rest = rest} (register_row {t = t} {names = names} colon behind semicolon read stands shaped end is) =
    (names, colon, read, front_is stands, (behind, (_, stands), (t, semicolon, shaped, tt, (rest, (_, end), (refl, sym is)))))

pub register_front : {clock : Named} {before locals : List Local} {all rest : List Item} → RegisterRow clock before all locals rest → front all ≡ s.Name
register_front (register_row colon behind semicolon read stands shaped end is) = names_front read

abbrev pub Registers_then : Named → List Local → List Local → List Item → List Item → Type 0
Registers_then clock before locals rest all = Read_then (RegisterRow clock before all) Anywhere (λ longer mid. MoreRegisters clock longer mid locals rest)

pub more_registers_step : {clock : Named} {before locals : List Local} {all rest : List Item} → MoreRegisters clock before all locals rest → NoName rest →
    front all ≡ s.Name → Registers_then clock before locals rest all
more_registers_step (no_register is none) ends name = absurd (ends (ap front none ∙ name))
more_registers_step (next_register {longer = longer} behind read more) ends name = (longer, behind, read, tt, more)

pub more_registers_over : {clock : Named} {before locals : List Local} {all rest : List Item} → MoreRegisters clock before all locals rest →
    (front all ≡ s.Name → ⊥) → (before ≡ locals) × (all ≡ rest)
more_registers_over (no_register is none) over = (sym is, sym none)
more_registers_over (next_register behind read more) over = absurd (over (register_front read))

abbrev pub Clock_then : List Local → List Local → List Item → Named → List Item → Type 0
Clock_then before locals rest clock all = Symbol_then s.CloseParen (Registers_then clock before locals rest) all

pub registers_step : {before locals : List Local} {all rest : List Item} → Registers before all locals rest →
    Symbol_then s.OpenParen (λ mid. Read_then (NameRead mid) Anywhere (Clock_then before locals rest)) all
registers_step (registers {longer = longer} {clock = clock} first close second behind opens read end row more) =
    (first, (_, opens), (clock, close, read, tt, (second, (_, end), (longer, behind, row, tt, more))))

pub shaped_no_name : {all rest : List Item} {t : Shape} → Shaped all t rest → front all ≡ s.Name → ⊥
shaped_no_name (vector {width = width} stands is t_is) name =
    let e : None ≡ Some width = ap width_of (sym name ∙ front_is stands) ∙ is in cc
shaped_no_name (bits first close behind stood c end bit is) name = clash (front_is stood) name (λ e. cc)
shaped_no_name (bytes first close behind stood c end bit is) name = clash (front_is stood) name (λ e. cc)
shaped_no_name (words first close behind stood c end bit is) name = clash (front_is stood) name (λ e. cc)
shaped_no_name (vectors first close second third close2 behind stood c end again d end2 bit is) name = clash (front_is stood) name (λ e. cc)

pub kind_name : {all rest : List Item} {kind : LocalKind} → VariableKind all kind rest → front all ≡ s.Name →
    Read_then (NameRead all) Anywhere (λ n mid. (mid ≡ rest) × (Inst n ≡ kind))
kind_name (variable t read is) name = absurd (shaped_no_name read name)
kind_name {rest = rest} (instance n read is) name = (n, rest, read, tt, (refl, sym is))

pub kind_shape : {all rest : List Item} {kind : LocalKind} → VariableKind all kind rest → (front all ≡ s.Name → ⊥) →
    Read_then (Shaped all) Anywhere (λ t mid. (mid ≡ rest) × (Var t ≡ kind))
kind_shape {rest = rest} (variable t read is) none = (t, rest, read, tt, (refl, sym is))
kind_shape (instance n read is) none = absurd (none (front_is (name_stands read)))

pub variable_step : {before locals : List Local} {all rest : List Item} → VariableRow before all locals rest →
    Row_then VariableKind (Local_last (λ kind. kind) before locals rest) all
variable_step {rest = rest} (variable_row {kind = kind} {names = names} colon behind semicolon read stands of end is) =
    (names, colon, read, front_is stands, (behind, (_, stands), (kind, semicolon, of, tt, (rest, (_, end), (refl, sym is)))))

pub variable_front : {before locals : List Local} {all rest : List Item} → VariableRow before all locals rest → front all ≡ s.Name
variable_front (variable_row colon behind semicolon read stands of end is) = names_front read

abbrev pub Variables_then : List Local → List Local → List Item → List Item → Type 0
Variables_then before locals rest all = Read_then (VariableRow before all) Anywhere (λ longer mid. MoreVariables longer mid locals rest)

pub more_variables_step : {before locals : List Local} {all rest : List Item} → MoreVariables before all locals rest → NoName rest → front all ≡ s.Name →
    Variables_then before locals rest all
more_variables_step (no_variable is none) ends name = absurd (ends (ap front none ∙ name))
more_variables_step (next_variable {longer = longer} behind read more) ends name = (longer, behind, read, tt, more)

pub more_variables_over : {before locals : List Local} {all rest : List Item} → MoreVariables before all locals rest → (front all ≡ s.Name → ⊥) →
    (before ≡ locals) × (all ≡ rest)
more_variables_over (no_variable is none) over = (sym is, sym none)
more_variables_over (next_variable behind read more) over = absurd (over (variable_front read))

-- {consts | regs | vars}
no_name : (all : List Item) → DeclarationsEnd all → NoName all
no_name all ends name = let e : false ≡ true = ap ends_declarations (sym name) ∙ ends in cc

pub declarations_no_name : {consts consts' : List Const} {locals locals' : List Local} {all rest : List Item} → Declarations consts locals all consts' locals' rest →
    DeclarationsEnd rest → NoName all
declarations_no_name {rest = rest} (no_declaration c l none) ends = λ name. no_name rest ends (ap front none ∙ name)
declarations_no_name (with_constants first behind stood read more) ends = λ name. clash (front_is stood) name (λ e. cc)
declarations_no_name (with_registers first behind stood read more) ends = λ name. clash (front_is stood) name (λ e. cc)
declarations_no_name (with_variables first behind stood read more) ends = λ name. clash (front_is stood) name (λ e. cc)

no_end : {C : Type 0} {symbol : Symbol} {at : ℕ} {all rest first : List Item} → rest ≡ all → DeclarationsEnd rest → Stands symbol at all first →
    ends_declarations symbol ≡ false → C
no_end none ends stands not =
    absurd (let e : true ≡ false = sym ends ∙ (ap (λ all. ends_declarations (front all)) none ∙ (ap ends_declarations (front_is stands) ∙ not)) in cc)

pub declarations_constants : {consts consts' : List Const} {locals locals' : List Local} {all rest first : List Item} {at : ℕ} →
    Declarations consts locals all consts' locals' rest → DeclarationsEnd rest → Stands s.Const at all first →
    Read_then (MoreConstants consts first) NoName (λ longer mid. Declarations longer locals mid consts' locals' rest)
declarations_constants (no_declaration c l none) ends stands = no_end none ends stands refl
declarations_constants {consts = consts} (with_constants {longer = longer} one behind stood read more) ends stands =
    (longer, behind, subst (λ all. MoreConstants consts all longer behind) (one_front stood stands).rest_is read, declarations_no_name more ends, more)
declarations_constants (with_registers one behind stood read more) ends stands = two_symbols stood stands (λ e. cc)
declarations_constants (with_variables one behind stood read more) ends stands = two_symbols stood stands (λ e. cc)

pub declarations_registers : {consts consts' : List Const} {locals locals' : List Local} {all rest first : List Item} {at : ℕ} →
    Declarations consts locals all consts' locals' rest → DeclarationsEnd rest → Stands s.Reg at all first →
    Read_then (Registers locals first) NoName (λ longer mid. Declarations consts longer mid consts' locals' rest)
declarations_registers (no_declaration c l none) ends stands = no_end none ends stands refl
declarations_registers (with_constants one behind stood read more) ends stands = two_symbols stood stands (λ e. cc)
declarations_registers {locals = locals} (with_registers {longer = longer} one behind stood read more) ends stands =
    (longer, behind, subst (λ all. Registers locals all longer behind) (one_front stood stands).rest_is read, declarations_no_name more ends, more)
declarations_registers (with_variables one behind stood read more) ends stands = two_symbols stood stands (λ e. cc)

pub declarations_variables : {consts consts' : List Const} {locals locals' : List Local} {all rest first : List Item} {at : ℕ} →
    Declarations consts locals all consts' locals' rest → DeclarationsEnd rest → Stands s.Var at all first →
    Read_then (MoreVariables locals first) NoName (λ longer mid. Declarations consts longer mid consts' locals' rest)
declarations_variables (no_declaration c l none) ends stands = no_end none ends stands refl
declarations_variables (with_constants one behind stood read more) ends stands = two_symbols stood stands (λ e. cc)
declarations_variables (with_registers one behind stood read more) ends stands = two_symbols stood stands (λ e. cc)
declarations_variables {locals = locals} (with_variables {longer = longer} one behind stood read more) ends stands =
    (longer, behind, subst (λ all. MoreVariables locals all longer behind) (one_front stood stands).rest_is read, declarations_no_name more ends, more)

pub declarations_over : {consts consts' : List Const} {locals locals' : List Local} {all rest : List Item} → Declarations consts locals all consts' locals' rest →
    (front all ≡ s.Const → ⊥) → (front all ≡ s.Reg → ⊥) → (front all ≡ s.Var → ⊥) → (consts ≡ consts') × (locals ≡ locals') × (all ≡ rest)
declarations_over (no_declaration c l none) no_const no_reg no_var = (sym c, sym l, sym none)
declarations_over (with_constants one behind stood read more) no_const no_reg no_var = absurd (no_const (front_is stood))
declarations_over (with_registers one behind stood read more) no_const no_reg no_var = absurd (no_reg (front_is stood))
declarations_over (with_variables one behind stood read more) no_const no_reg no_var = absurd (no_var (front_is stood))

-- modules
pub begun_end : {all rest : List Item} {body : List StmtTree} → Begun all body rest → Before s.End rest → DeclarationsEnd all
begun_end (no_body is none) ends = ap ends_declarations (sym (ap front none) ∙ ends)
begun_end (begun behind stands read) ends = ap ends_declarations (front_is stands)

pub begun_none : {all rest : List Item} {body : List StmtTree} → Begun all body rest → (front all ≡ s.Begin → ⊥) → ([] ≡ body) × (all ≡ rest)
begun_none (no_body is none) over = (sym is, sym none)
begun_none (begun behind stands read) over = absurd (over (front_is stands))

pub begun_body : {all rest first : List Item} {body : List StmtTree} {at : ℕ} → Begun all body rest → Before s.End rest → Stands s.Begin at all first → Body first body rest
begun_body (no_body is none) ends stands = clash (front_is stands) (sym (ap front none) ∙ ends) (λ e. cc)
begun_body {rest = rest} {body = body} (begun behind stood read) ends stands = subst (λ all. Body all body rest) (one_front stood stands).rest_is read

abbrev pub Module_dot : ModuleTree → List Item → Named → List Port → List Const × List Local → List StmtTree → Named → List Item → Type 0
Module_dot m rest title ports declared body ends all = Symbol_then s.Dot (λ mid. (mid ≡ rest) ×
    (record { name = title.name; ports = ports; consts = declared.0; locals = declared.1; body = body; ends = ends; at = title.at } ≡ m)) all

abbrev pub Module_end : ModuleTree → List Item → Named → List Port → List Const × List Local → List StmtTree → List Item → Type 0
Module_end m rest title ports declared body all = Symbol_then s.End (λ mid. Read_then (NameRead mid) Anywhere (Module_dot m rest title ports declared body)) all

abbrev pub Module_body : ModuleTree → List Item → Named → List Port → List Const × List Local → List Item → Type 0
Module_body m rest title ports declared all = Read_then (Begun all) (Before s.End) (Module_end m rest title ports declared)

abbrev pub Module_declared : ModuleTree → List Item → Named → List Port → List Item → Type 0
Module_declared m rest title ports all = Read_then (DeclaredRead all) DeclarationsEnd (Module_body m rest title ports)

abbrev pub Module_close : ModuleTree → List Item → Named → List Port → List Item → Type 0
Module_close m rest title ports all = Symbol_then s.CloseParen (Symbol_then s.Semicolon (Module_declared m rest title ports)) all

abbrev pub Module_ports : ModuleTree → List Item → Named → List Item → Type 0
Module_ports m rest title all = Symbol_then s.OpenParen (λ mid. Read_then (Ports mid) (Before s.CloseParen) (Module_close m rest title)) all

abbrev pub Module_then : ModuleTree → List Item → List Item → Type 0
Module_then m rest all = Symbol_then s.Module (λ mid. Read_then (NameRead mid) Anywhere (Module_ports m rest)) all

pub module_step : {all rest : List Item} {m : ModuleTree} → OneModule all m rest → Module_then m rest all
module_step {rest = rest} {m = m} (one_module {title = title} {ends = ends} {ports = ports} {consts = consts} {locals = locals} {body = body}
    first paren second close semicolon third fourth fifth sixth dot starts title_read opens ports_read closes semicolon_stands declared begun_read end ends_read dot_stands is) =
    let last : Module_dot m rest title ports (consts, locals) body ends dot = (rest, (_, dot_stands), (refl, sym is)) in
    let at_end : Module_end m rest title ports (consts, locals) body fifth = (sixth, (_, end), (ends, dot, ends_read, tt, last)) in
    let at_body : Module_body m rest title ports (consts, locals) fourth = (body, fifth, begun_read, front_is end, at_end) in
    let at_declared : Module_declared m rest title ports third = ((consts, locals), fourth, declared, begun_end begun_read (front_is end), at_body) in
    let at_close : Module_close m rest title ports close = (semicolon, (_, closes), (third, (_, semicolon_stands), at_declared)) in
    let at_ports : Module_ports m rest title paren = (second, (_, opens), (ports, close, ports_read, front_is closes, at_close)) in
    (first, (_, starts), (title, paren, title_read, tt, at_ports))

pub module_longer : {all rest : List Item} {m : ModuleTree} → OneModule all m rest → 0 < length all
module_longer read = let w = module_step read in let longer = is_shorter w.1.1 in omega arith

abbrev pub Modules_then : List ModuleTree → List ModuleTree → List Item → Type 0
Modules_then before modules all = Read_then (OneModule all) Anywhere (λ m mid. MoreModules (before ++ m ∷ []) mid modules [])

pub source_step : {all : List Item} {t : SourceTree} → SpellsSource all t → Modules_then [] t.modules all
source_step (spells {m = m} behind read more) = (m, behind, read, tt, more)

pub more_modules : {all rest : List Item} {before modules : List ModuleTree} → MoreModules before all modules rest → rest ≡ [] → 0 < length all →
    Read_then (OneModule all) Anywhere (λ m mid. MoreModules (before ++ m ∷ []) mid modules rest)
more_modules (no_module is none) empty long = absurd (let e = ap length (sym none ∙ empty) in omega arith)
more_modules (next_module {m = m} behind read more) empty long = (m, behind, read, tt, more)

pub more_modules_step : {all : List Item} {before modules : List ModuleTree} → MoreModules before all modules [] → 0 < length all → Modules_then before modules all
more_modules_step read long = more_modules read refl long

pub more_modules_over : {all rest : List Item} {before modules : List ModuleTree} → MoreModules before all modules rest → length all ≤ 0 → before ≡ modules
more_modules_over (no_module is none) over = sym is
more_modules_over (next_module behind read more) over = absurd (let long = module_longer read in omega arith)
