-- One type, and one tree: at the front of one list two types are the same, and the tokens of a design spell
-- one tree.
use Rattle.std.proofs.Common.{◌≡◌, true, false, List, [], ◌∷◌, ◌++◌, length, Some, None, refl, sym, ap, subst, ◌∙◌, arith}
use Rattle.lola_tree.specs.declared.named.Named.{Named}
use Rattle.lola_tree.specs.declared.named.Shape.{Shape}
use Rattle.lola_tree.specs.declared.named.Shape.TheVariants as shape
use Rattle.lola_tree.specs.declared.module.Way.{Way}
use Rattle.lola_tree.specs.declared.module.Port.{Port}
use Rattle.lola_tree.specs.declared.module.Const.{Const}
use Rattle.lola_tree.specs.declared.module.LocalKind.{LocalKind}
use Rattle.lola_tree.specs.declared.module.Local.{Local}
use Rattle.lola_tree.specs.Tree.{Tree, ActualTree, StmtTree, assignment, ModuleTree, SourceTree}
use Rattle.lola_parse.specs.declared.symbol.Symbol.{Symbol}
use Rattle.lola_parse.specs.declared.symbol.Symbol.TheVariants as s
use Rattle.lola_parse.specs.declared.symbol.Language.TheVariants.{Design}
use Rattle.lola_parse.specs.Symbols.{Item}
use Rattle.lola_parse.specs.Grammar.{place_of}
use Rattle.lola_parse.specs.Design.{Outermost, Argument, argument, MoreArguments, no_argument, one_argument, Statement, assigned, placed, called, driven, Optional, empty, one_statement, MoreStatements, no_statement, next_statement, Body, statements, Begun, no_body, begun, MoreNames, no_name, one_name, NameList, name_list, Shaped, vector, bits, bytes, words, vectors, way_of, Group, group, Directed, as_before, said, MoreGroups, no_group, one_group, Ports, no_port, some_ports, Constant, constant, MoreConstants, no_constant, one_constant, RegisterRow, register_row, MoreRegisters, no_register, next_register, Registers, registers, VariableKind, variable, instance, VariableRow, variable_row, MoreVariables, no_variable, next_variable, Declarations, no_declaration, with_constants, with_registers, with_variables, OneModule, one_module, MoreModules, no_module, next_module, SpellsSource, spells}
use Rattle.lola_parse.specs.Behind.{ArgumentsBehind, DeclaredRead}
use Rattle.lola_parse.specs.MayEnd.{Before, NoName, ends_statement, ends_declarations, StatementEnds, DeclarationsEnd, Sole}
use Rattle.lola_parse.specs.Read.{front, Stops, Anywhere}
use Rattle.lola_parse.proofs.Follow.{one_front, front_is, name_stands}
use Rattle.lola_parse.proofs.Steps.{passed, was_read}
use Rattle.lola_parse.proofs.Shaped.{shaped_word, shaped_counted, shape_ends, end_bits, end_bytes, end_words, end_vectors, vectors_bit}
use Rattle.lola_parse.proofs.Statements.{names_step, more_names_step, more_names_over, stops_at, arguments_step, more_arguments_step, more_arguments_stop, more_arguments_over, called_step, pad_step, statement_pad, statement_name, statement_front, named_value, named_place, named_arguments, placed_step, optional_statement, optional_none, body_step, more_statements_end, more_statements_step, more_statements_over, front_in, statement_stops}
use Rattle.lola_parse.proofs.Modules.{group_step, group_front, directed_none, directed_some, more_groups_step, more_groups_over, constant_step, constant_front, more_constants_step, more_constants_over, register_step, more_registers_step, more_registers_over, registers_step, kind_name, kind_shape, shaped_no_name, variable_step, more_variables_step, more_variables_over, declarations_no_name, declarations_constants, declarations_registers, declarations_variables, declarations_over, begun_end, begun_none, begun_body, ports_none, ports_step, number_one, module_step, source_step, more_modules, more_modules_over, module_longer, register_front, variable_front}
use Rattle.lola_parse.proofs.Unique.{after_one, name_one, counted_one, outermost_one}

-- where one thing stands no other does
not_here : {here symbol other : Symbol} → here ≡ symbol → (symbol ≡ other → ⊥) → here ≡ other → ⊥
not_here is not e = not (sym is ∙ e)

moved_front : {all rest : List Item} {symbol : Symbol} → rest ≡ all → Before symbol rest → front all ≡ symbol
moved_front none ends = sym (ap front none) ∙ ends

-- types
pub shaped_one : {all b : List Item} {t : Shape} → Shaped all t b → Sole (Shaped all) Anywhere t b
shaped_one (vector stands is t_is) = λ u rest d k. let same = shaped_word d stands is in (t_is ∙ same.0, same.1)
shaped_one (bits first close behind stands c end bit is) =
    λ u rest d k.
    let same = end_bits (shape_ends (shaped_counted d stands) (counted_one c) (after_one end)) bit in
    (is ∙ same.0, same.1)
shaped_one (bytes first close behind stands c end byte is) =
    λ u rest d k.
    let same = end_bytes (shape_ends (shaped_counted d stands) (counted_one c) (after_one end)) byte in
    (is ∙ same.0, same.1)
shaped_one (words first close behind stands c end word is) =
    λ u rest d k.
    let same = end_words (shape_ends (shaped_counted d stands) (counted_one c) (after_one end)) word in
    (is ∙ same.0, same.1)
shaped_one (vectors {number = number} first close second third close2 behind stands c end again width end2 bit is) =
    λ u rest d k.
    let h = end_vectors (shape_ends (shaped_counted d stands) (counted_one c) (after_one end)) again in
    let same = counted_one width h.width h.close h.width_read tt in
    (is ∙ (ap (shape.Array number) same.0 ∙ sym h.tree_is), after_one bit rest (vectors_bit h (counted_one width) (after_one end2)))

-- names
more_names_one : {all b : List Item} {before names : List Named} → MoreNames before all names b → Before s.Colon b → Sole (MoreNames before all) (Before s.Colon) names b
more_names_one (no_name is none) ends =
    λ other rest d k.
    let same = more_names_over d (not_here (moved_front none ends) (λ e. cc)) in
    (is ∙ same.0, none ∙ same.1)
more_names_one {before = before} (one_name first behind stands read more) ends =
    λ other rest d k. more_names_one more ends other rest (was_read (λ n mid. MoreNames (before ++ n ∷ []) mid other rest) (more_names_step d k stands) (name_one read)) k

names_one : {all b : List Item} {names : List Named} → NameList all names b → Before s.Colon b → Sole (NameList all) (Before s.Colon) names b
names_one (name_list behind first more) ends =
    λ other rest d k. more_names_one more ends other rest (was_read (λ n mid. MoreNames (n ∷ []) mid other rest) (names_step d) (name_one first)) k

-- arguments
same_argument : {all b rest : List Item} {e : Tree} {a other : ActualTree} → Outermost Design all e b → Stops b → a ≡ record { value = e; at = place_of all } →
    Argument all other rest → Stops rest → (a ≡ other) × (b ≡ rest)
same_argument {all = all} {rest = rest} read stops is (argument f again of) k =
    let same = outermost_one read stops f rest again k in
    (is ∙ (ap (λ e. record { value = e; at = place_of all }) same.0 ∙ sym of), same.1)

argument_one : {all b : List Item} {a : ActualTree} → Argument all a b → Stops b → Sole (Argument all) Stops a b
argument_one (argument e read is) stops = λ other rest d k. same_argument read stops is d k

more_arguments_one : {all b : List Item} {before args : List ActualTree} → MoreArguments before all args b → Before s.CloseParen b →
    Sole (MoreArguments before all) (Before s.CloseParen) args b
more_arguments_one (no_argument is none) ends =
    λ other rest d k.
    let same = more_arguments_over d (not_here (moved_front none ends) (λ e. cc)) in
    (is ∙ same.0, none ∙ same.1)
more_arguments_one {before = before} (one_argument first behind stands read more) ends =
    λ other rest d k.
    more_arguments_one more ends other rest
    (was_read (λ a mid. MoreArguments (before ++ a ∷ []) mid other rest) (more_arguments_step d k stands) (argument_one read (more_arguments_stop more ends))) k

arguments_one : {all b : List Item} {args : List ActualTree} → ArgumentsBehind all args b → Before s.CloseParen b → Sole (ArgumentsBehind all) (Before s.CloseParen) args b
arguments_one h ends =
    λ other rest d k.
    more_arguments_one h.more_read ends other rest
    (was_read (λ a mid. MoreArguments (a ∷ []) mid other rest) (arguments_step d k) (argument_one h.first_read (more_arguments_stop h.more_read ends))) k

-- statements
statement_one : {all b : List Item} {t : StmtTree} → Statement all t b → Stops b → Sole (Statement all) Stops t b
statement_one (assigned {name = name} {at = at} {equals = equals} sign behind read stands value is) stops =
    λ u rest d k.
    let w = was_read _ (statement_name d (not_here (front_is (name_stands read)) (λ e. cc))) (name_one {n = record { name = name; at = at }} read) in
    let h = named_value w stands in
    let same = outermost_one value stops h.value rest h.value_read k in
    (is ∙ (ap (λ v. assignment name None v at equals) same.0 ∙ sym h.tree_is), same.1)
statement_one (placed {name = name} {e = value_tree} {place = place_tree} {at = at} {place_at = place_at} {equals = equals}
    bracket first close sign behind read opens place end stands value is) stops =
    λ u rest d k.
    let w = was_read _ (statement_name d (not_here (front_is (name_stands read)) (λ e. cc))) (name_one {n = record { name = name; at = at }} read) in
    let x = was_read _ (placed_step (named_place w opens)) (outermost_one place (stops_at end refl)) in
    let y = passed _ x (after_one end) in
    let f = one_front y.2 stands in
    let same = outermost_one value stops y.3.value rest (subst (λ all. Outermost Design all y.3.value rest) f.rest_is y.3.value_read) k in
    let made = ap (λ v. assignment name (Some record { value = place_tree; at = place_at }) v at equals) same.0 in
    let sign_is = ap (assignment name (Some record { value = place_tree; at = place_at }) y.3.value at) (sym f.at_is) in
    (is ∙ (made ∙ (sign_is ∙ sym y.3.tree_is)), same.1)
statement_one (called {name = name} {at = at} paren first behind close read opens a more end is) stops =
    λ u rest d k.
    let w = was_read _ (statement_name d (not_here (front_is (name_stands read)) (λ e. cc))) (name_one {n = record { name = name; at = at }} read) in
    let own : ArgumentsBehind first _ close = record { first = _; behind = behind; first_read = a; more_read = more } in
    let x = was_read _ (called_step (named_arguments w opens)) (arguments_one own (front_is end)) in
    let y = passed _ x (after_one end) in
    (is ∙ y.1, y.0)
statement_one (driven {io = io} {inner = inner} paren first comma second comma2 third comma3 fourth close stands opens io_read c inner_read e value f release end is) stops =
    λ u rest d k.
    let opened = passed _ (pad_step (statement_pad d stands)) (after_one opens) in
    let one = was_read _ opened (name_one {n = io} io_read) in
    let two = passed _ one (after_one c) in
    let three = was_read _ two (name_one {n = inner} inner_read) in
    let four = passed _ three (after_one e) in
    let five = was_read _ four (argument_one value (stops_at f refl)) in
    let six = passed _ five (after_one f) in
    let seven = was_read _ six (argument_one release (stops_at end refl)) in
    let same = passed _ seven (after_one end) in
    (is ∙ same.1, same.0)

no_statement_here : {all rest : List Item} → rest ≡ all → StatementEnds rest → (symbol : Symbol) → ends_statement symbol ≡ false → front all ≡ symbol → ⊥
no_statement_here none ends symbol not is =
    let e : true ≡ false = sym ends ∙ (ap (λ all. ends_statement (front all)) none ∙ (ap ends_statement is ∙ not)) in cc

optional_one : {all b : List Item} {before body : List StmtTree} → Optional before all body b → StatementEnds b → Sole (Optional before all) StatementEnds body b
optional_one (empty is none) ends =
    λ other rest d k.
    let same = optional_none d (no_statement_here none ends s.Name refl) (no_statement_here none ends s.Ts refl) in
    (is ∙ same.0, none ∙ same.1)
optional_one {before = before} (one_statement t read is) ends =
    λ other rest d k.
    let w = optional_statement d k (front_in refl (statement_front read)) in
    let same = was_read (λ t mid. (mid ≡ rest) × (before ++ t ∷ [] ≡ other)) w (statement_one read (statement_stops ends)) in
    (is ∙ same.1, same.0)

more_statements_one : {all b : List Item} {before body : List StmtTree} → MoreStatements before all body b → Before s.End b →
    Sole (MoreStatements before all) (Before s.End) body b
more_statements_one (no_statement is none) ends =
    λ other rest d k.
    let same = more_statements_over d (not_here (moved_front none ends) (λ e. cc)) in
    (is ∙ same.0, none ∙ same.1)
more_statements_one (next_statement first behind stands read more) ends =
    λ other rest d k.
    more_statements_one more ends other rest
    (was_read (λ longer mid. MoreStatements longer mid other rest) (more_statements_step d k stands) (optional_one read (more_statements_end more ends))) k

body_one : {all b : List Item} {body : List StmtTree} → Body all body b → Before s.End b → Sole (Body all) (Before s.End) body b
body_one (statements behind read more) ends =
    λ other rest d k.
    more_statements_one more ends other rest
    (was_read (λ longer mid. MoreStatements longer mid other rest) (body_step d k) (optional_one read (more_statements_end more ends))) k

begun_one : {all b : List Item} {body : List StmtTree} → Begun all body b → Before s.End b → Sole (Begun all) (Before s.End) body b
begun_one (no_body is none) ends =
    λ other rest d k.
    let same = begun_none d (not_here (moved_front none ends) (λ e. cc)) in
    (is ∙ same.0, none ∙ same.1)
begun_one (begun behind stands read) ends = λ other rest d k. body_one read ends other rest (begun_body d k stands) k

-- groups of ports
group_one : {way : Way} {before ports : List Port} {all b : List Item} → Group way before all ports b → Sole (Group way before all) Anywhere ports b
group_one (group colon behind read stands t is) =
    λ other rest d k.
    let w = was_read _ (group_step d) (names_one read (front_is stands)) in
    let x = passed _ w (after_one stands) in
    let same = was_read _ x (shaped_one t) in
    (is ∙ same.1, same.0)

directed_one : {before way : Way} {all b : List Item} → Directed before all way b → Before s.Name b → Sole (Directed before all) (Before s.Name) way b
directed_one (as_before is none) ends =
    λ other rest d k.
    let same = directed_none d (ap way_of (moved_front none ends)) in
    (is ∙ same.0, none ∙ same.1)
directed_one (said stands is) ends = λ other rest d k. directed_some d k stands is

more_groups_one : {way : Way} {before ports : List Port} {all b : List Item} → MoreGroups way before all ports b → Before s.CloseParen b →
    Sole (MoreGroups way before all) (Before s.CloseParen) ports b
more_groups_one (no_group is none) ends =
    λ other rest d k.
    let same = more_groups_over d (not_here (moved_front none ends) (λ e. cc)) in
    (is ∙ same.0, none ∙ same.1)
more_groups_one (one_group first second behind stands directed read more) ends =
    λ other rest d k.
    let w = was_read _ (more_groups_step d k stands) (directed_one directed (group_front read)) in
    more_groups_one more ends other rest (was_read (λ longer mid. MoreGroups _ longer mid other rest) w (group_one read)) k

ports_one : {all b : List Item} {ports : List Port} → Ports all ports b → Before s.CloseParen b → Sole (Ports all) (Before s.CloseParen) ports b
ports_one (no_port is none) ends =
    λ other rest d k.
    let same = ports_none d (ap way_of (moved_front none ends)) in
    (is ∙ same.0, none ∙ same.1)
ports_one (some_ports second behind stands says read more) ends =
    λ other rest d k.
    more_groups_one more ends other rest
    (was_read (λ first mid. MoreGroups _ first mid other rest) (ports_step d k stands says) (group_one read)) k

-- constants
constant_one : {all b : List Item} {c : Const} → Constant all c b → Sole (Constant all) Anywhere c b
constant_one (constant {name = name} {value = value} {at = at} {number_at = number_at} {width = width} sign behind semicolon read stands number end is) =
    λ other rest d k.
    let w = was_read _ (constant_step d) (name_one {n = record { name = name; at = at }} read) in
    let x = passed _ w (after_one stands) in
    let same = number_one number end x in
    (is ∙ same.0, same.1)

more_constants_one : {all b : List Item} {before consts : List Const} → MoreConstants before all consts b → NoName b → Sole (MoreConstants before all) NoName consts b
more_constants_one (no_constant is none) ends =
    λ other rest d k.
    let same = more_constants_over d (λ e. ends (ap front none ∙ e)) in
    (is ∙ same.0, none ∙ same.1)
more_constants_one {before = before} (one_constant behind read more) ends =
    λ other rest d k.
    more_constants_one more ends other rest
    (was_read (λ c mid. MoreConstants (before ++ c ∷ []) mid other rest) (more_constants_step d k (constant_front read)) (constant_one read)) k

-- registers and variables
register_one : {clock : Named} {before locals : List Local} {all b : List Item} → RegisterRow clock before all locals b → Sole (RegisterRow clock before all) Anywhere locals b
register_one (register_row colon behind semicolon read stands t end is) =
    λ other rest d k.
    let w = was_read _ (register_step d) (names_one read (front_is stands)) in
    let x = passed _ w (after_one stands) in
    let y = was_read _ x (shaped_one t) in
    let same = passed _ y (after_one end) in
    (is ∙ same.1, same.0)

more_registers_one : {clock : Named} {before locals : List Local} {all b : List Item} → MoreRegisters clock before all locals b → NoName b →
    Sole (MoreRegisters clock before all) NoName locals b
more_registers_one (no_register is none) ends =
    λ other rest d k.
    let same = more_registers_over d (λ e. ends (ap front none ∙ e)) in
    (is ∙ same.0, none ∙ same.1)
more_registers_one {clock = clock} (next_register behind read more) ends =
    λ other rest d k.
    more_registers_one more ends other rest
    (was_read (λ longer mid. MoreRegisters clock longer mid other rest) (more_registers_step d k (register_front read)) (register_one read)) k

registers_one : {before locals : List Local} {all b : List Item} → Registers before all locals b → NoName b → Sole (Registers before all) NoName locals b
registers_one (registers {clock = clock} first close second behind opens read end row more) ends =
    λ other rest d k.
    let w = passed _ (registers_step d) (after_one opens) in
    let x = was_read _ w (name_one {n = clock} read) in
    let y = passed _ x (after_one end) in
    more_registers_one more ends other rest (was_read (λ longer mid. MoreRegisters clock longer mid other rest) y (register_one row)) k

kind_one : {kind : LocalKind} {all b : List Item} → VariableKind all kind b → Sole (VariableKind all) Anywhere kind b
kind_one (variable t read is) =
    λ other rest d k.
    let same = was_read _ (kind_shape d (shaped_no_name read)) (shaped_one read) in
    (is ∙ same.1, same.0)
kind_one (instance n read is) =
    λ other rest d k.
    let same = was_read _ (kind_name d (front_is (name_stands read))) (name_one {n = n} read) in
    (is ∙ same.1, same.0)

variable_one : {before locals : List Local} {all b : List Item} → VariableRow before all locals b → Sole (VariableRow before all) Anywhere locals b
variable_one (variable_row colon behind semicolon read stands kind end is) =
    λ other rest d k.
    let w = was_read _ (variable_step d) (names_one read (front_is stands)) in
    let x = passed _ w (after_one stands) in
    let y = was_read _ x (kind_one kind) in
    let same = passed _ y (after_one end) in
    (is ∙ same.1, same.0)

more_variables_one : {before locals : List Local} {all b : List Item} → MoreVariables before all locals b → NoName b →
    Sole (MoreVariables before all) NoName locals b
more_variables_one (no_variable is none) ends =
    λ other rest d k.
    let same = more_variables_over d (λ e. ends (ap front none ∙ e)) in
    (is ∙ same.0, none ∙ same.1)
more_variables_one (next_variable behind read more) ends =
    λ other rest d k.
    more_variables_one more ends other rest
    (was_read (λ longer mid. MoreVariables longer mid other rest) (more_variables_step d k (variable_front read)) (variable_one read)) k

-- declarations
no_declaration_here : {all rest : List Item} → rest ≡ all → DeclarationsEnd rest → (symbol : Symbol) → ends_declarations symbol ≡ false → front all ≡ symbol → ⊥
no_declaration_here none ends symbol not is =
    let e : true ≡ false = sym ends ∙ (ap (λ all. ends_declarations (front all)) none ∙ (ap ends_declarations is ∙ not)) in cc

declarations_one : {consts consts' : List Const} {locals locals' : List Local} {all b : List Item} → Declarations consts locals all consts' locals' b →
    DeclarationsEnd b → (other : List Const) (more : List Local) (rest : List Item) → Declarations consts locals all other more rest → DeclarationsEnd rest →
    (consts' ≡ other) × (locals' ≡ more) × (b ≡ rest)
declarations_one (no_declaration c l none) ends =
    λ other more rest d k.
    let same = declarations_over d (no_declaration_here none ends s.Const refl) (no_declaration_here none ends s.Reg refl) (no_declaration_here none ends s.Var refl) in
    (c ∙ same.0, l ∙ same.1, none ∙ same.2)
declarations_one {locals = locals} (with_constants first behind stands read further) ends =
    λ other more rest d k.
    declarations_one further ends other more rest
    (was_read (λ longer mid. Declarations longer locals mid other more rest) (declarations_constants d k stands)
    (more_constants_one read (declarations_no_name further ends))) k
declarations_one {consts = consts} (with_registers first behind stands read further) ends =
    λ other more rest d k.
    declarations_one further ends other more rest
    (was_read (λ longer mid. Declarations consts longer mid other more rest) (declarations_registers d k stands)
    (registers_one read (declarations_no_name further ends))) k
declarations_one {consts = consts} (with_variables first behind stands read further) ends =
    λ other more rest d k.
    declarations_one further ends other more rest
    (was_read (λ longer mid. Declarations consts longer mid other more rest) (declarations_variables d k stands)
    (more_variables_one read (declarations_no_name further ends))) k

declared_one : {consts : List Const} {locals : List Local} {all b : List Item} → Declarations [] [] all consts locals b → DeclarationsEnd b →
    Sole (DeclaredRead all) DeclarationsEnd (consts, locals) b
declared_one read ends =
    λ other rest d k.
    let same = declarations_one read ends other.0 other.1 rest d k in
    (λ i. (same.0 i, same.1 i), same.2)

-- modules
module_one : {all b : List Item} {m : ModuleTree} → OneModule all m b → Sole (OneModule all) Anywhere m b
module_one (one_module {title = title} {ends = ends} first paren second close semicolon third fourth fifth sixth dot starts title_read opens ports_read closes
    semicolon_stands declared begun_read end ends_read dot_stands is) =
    λ other rest d k.
    let one = passed _ (module_step d) (after_one starts) in
    let two = was_read _ one (name_one {n = title} title_read) in
    let three = passed _ two (after_one opens) in
    let four = was_read _ three (ports_one ports_read (front_is closes)) in
    let five = passed _ four (after_one closes) in
    let six = passed _ five (after_one semicolon_stands) in
    let seven = was_read _ six (declared_one declared (begun_end begun_read (front_is end))) in
    let eight = was_read _ seven (begun_one begun_read (front_is end)) in
    let nine = passed _ eight (after_one end) in
    let ten = was_read _ nine (name_one {n = ends} ends_read) in
    let same = passed _ ten (after_one dot_stands) in
    (is ∙ same.1, same.0)

more_modules_one : {all b rest : List Item} {before modules other : List ModuleTree} → MoreModules before all modules b → b ≡ [] →
    MoreModules before all other rest → rest ≡ [] → modules ≡ other
more_modules_one (no_module is none) none_left d end =
    is ∙ more_modules_over d (let e = ap length (sym none ∙ none_left) in omega arith)
more_modules_one {rest = rest} {before = before} {other = other} (next_module behind read more) none_left d end =
    more_modules_one more none_left (was_read (λ m mid. MoreModules (before ++ m ∷ []) mid other rest) (more_modules d end (module_longer read)) (module_one read)) end

pub source_one : {all : List Item} {t u : SourceTree} → SpellsSource all t → SpellsSource all u → t ≡ u
source_one {u = u} (spells behind read more) d =
    let rest = was_read (λ m mid. MoreModules (m ∷ []) mid u.modules []) (source_step d) (module_one read) in
    ap (λ (ms : List ModuleTree). record { modules = ms }) (more_modules_one more refl rest refl)
