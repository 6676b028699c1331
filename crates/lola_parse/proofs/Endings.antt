-- What stands behind a rule of designs is an end of what it is read from.
use Rattle.std.proofs.Common.{◌≡◌, List, ◌++◌, take, Result, Ok, Err, sym, ap, ◌∙◌}
use Rattle.std.proofs.lemmas.List.{append_assoc, take-append-drop}
use Rattle.std.specs.Result.{IsErrAnd, IfErr}
use Rattle.lola_tree.specs.declared.named.Named.{Named}
use Rattle.lola_tree.specs.declared.named.Shape.{Shape}
use Rattle.lola_tree.specs.declared.module.Way.{Way}
use Rattle.lola_tree.specs.declared.module.Port.{Port}
use Rattle.lola_tree.specs.declared.module.Const.{Const}
use Rattle.lola_tree.specs.declared.module.Local.{Local}
use Rattle.lola_tree.specs.declared.module.LocalKind.{LocalKind}
use Rattle.lola_tree.specs.Tree.{Tree, ActualTree, StmtTree, ModuleTree}
use Rattle.lola_parse.specs.declared.fault.Fault.{Fault}
use Rattle.lola_parse.specs.declared.fault.Fault.TheVariants as fault
use Rattle.lola_parse.specs.declared.symbol.Symbol.{Symbol}
use Rattle.lola_parse.specs.declared.symbol.Language.{Language}
use Rattle.lola_parse.specs.declared.symbol.Language.TheVariants.{Design}
use Rattle.lola_parse.specs.Symbols.{Item}
use Rattle.lola_parse.specs.Grammar.{Passes}
use Rattle.lola_parse.specs.Design.{Outermost, Argument, argument, MoreArguments, no_argument, one_argument, Statement, assigned, placed, called, driven, Optional, empty, one_statement, MoreStatements, no_statement, next_statement, Body, statements, Begun, no_body, begun, MoreNames, no_name, one_name, NameList, name_list, Shaped, vector, bits, bytes, words, vectors, Group, group, Directed, as_before, said, MoreGroups, no_group, one_group, Ports, no_port, some_ports, Constant, constant, MoreConstants, no_constant, one_constant, RegisterRow, register_row, MoreRegisters, no_register, next_register, Registers, registers, VariableKind, variable, instance, VariableRow, variable_row, MoreVariables, no_variable, next_variable, Declarations, no_declaration, with_constants, with_registers, with_variables, OneModule, one_module}
use Rattle.lola_parse.specs.Behind.{ArgumentsBehind}
use Rattle.lola_parse.specs.Long.{LongWithin}
use Rattle.lola_parse.proofs.Begun.{hands_on}
use Rattle.lola_parse.proofs.Suffix.{Ends, itself, ◌then◌, past, past_name, counted_ends, expression_ends}

pub passes_ends : {symbol : Symbol} {all rest : List Item} → Passes symbol all rest → Ends all rest
passes_ends h = past h.1

pub outermost_ends : {l : Language} {all rest : List Item} {e : Tree} → Outermost l all e rest → Ends all rest
outermost_ends h = expression_ends h.expr

pub argument_ends : {all rest : List Item} {a : ActualTree} → Argument all a rest → Ends all rest
argument_ends (argument e read is) = outermost_ends read

pub arguments_ends : {all rest : List Item} {before args : List ActualTree} → MoreArguments before all args rest → Ends all rest
arguments_ends (no_argument is none) = itself _ _ none
arguments_ends (one_argument first behind comma read more) = past comma then argument_ends read then arguments_ends more

pub statement_ends : {all rest : List Item} {t : StmtTree} → Statement all t rest → Ends all rest
statement_ends (assigned sign behind name stands value is) = past_name name then past stands then outermost_ends value
statement_ends (placed bracket first close sign behind name opens place end stands value is) =
    past_name name then past opens then outermost_ends place then past end then past stands then outermost_ends value
statement_ends (called paren first behind close name opens read more end is) =
    past_name name then past opens then argument_ends read then arguments_ends more then past end
statement_ends (driven paren first comma second comma2 third comma3 fourth close ts opens io one inner two value three release end is) =
    past ts then past opens then past_name io then past one then past_name inner then past two then argument_ends value then past three then
    argument_ends release then past end

pub optional_ends : {all rest : List Item} {before body : List StmtTree} → Optional before all body rest → Ends all rest
optional_ends (empty is none) = itself _ _ none
optional_ends (one_statement t read is) = statement_ends read

pub statements_ends : {all rest : List Item} {before body : List StmtTree} → MoreStatements before all body rest → Ends all rest
statements_ends (no_statement is none) = itself _ _ none
statements_ends (next_statement first behind stands read more) = past stands then optional_ends read then statements_ends more

pub body_ends : {all rest : List Item} {body : List StmtTree} → Body all body rest → Ends all rest
body_ends (statements behind read more) = optional_ends read then statements_ends more

pub begun_ends : {all rest : List Item} {body : List StmtTree} → Begun all body rest → Ends all rest
begun_ends (no_body is none) = itself _ _ none
begun_ends (begun behind stands read) = past stands then body_ends read

pub more_names_ends : {all rest : List Item} {before names : List Named} → MoreNames before all names rest → Ends all rest
more_names_ends (no_name is none) = itself _ _ none
more_names_ends (one_name first behind stands read more) = past stands then past_name read then more_names_ends more

pub names_ends : {all rest : List Item} {names : List Named} → NameList all names rest → Ends all rest
names_ends (name_list behind read more) = past_name read then more_names_ends more

pub shape_ends : {all rest : List Item} {t : Shape} → Shaped all t rest → Ends all rest
shape_ends (vector stands width is) = past stands
shape_ends (bits first close behind opens width end bit is) = past opens then counted_ends width then past end then past bit
shape_ends (bytes first close behind opens width end bit is) = past opens then counted_ends width then past end then past bit
shape_ends (words first close behind opens width end bit is) = past opens then counted_ends width then past end then past bit
shape_ends (vectors first close second third close2 behind opens number end opens2 width end2 bit is) =
    past opens then counted_ends number then past end then past opens2 then counted_ends width then past end2 then past bit

pub group_ends : {way : Way} {all rest : List Item} {before ports : List Port} → Group way before all ports rest → Ends all rest
group_ends (group colon behind names stands shape is) = names_ends names then past stands then shape_ends shape

pub directed_ends : {before way : Way} {all rest : List Item} → Directed before all way rest → Ends all rest
directed_ends (as_before is none) = itself _ _ none
directed_ends (said stands is) = past stands

pub groups_ends : {way : Way} {all rest : List Item} {before ports : List Port} → MoreGroups way before all ports rest → Ends all rest
groups_ends (no_group is none) = itself _ _ none
groups_ends (one_group first second behind stands way read more) = past stands then directed_ends way then group_ends read then groups_ends more

pub ports_ends : {all rest : List Item} {ports : List Port} → Ports all ports rest → Ends all rest
ports_ends (no_port is none) = itself _ _ none
ports_ends (some_ports second behind stands way read more) = past stands then group_ends read then groups_ends more

pub constant_ends : {all rest : List Item} {c : Const} → Constant all c rest → Ends all rest
constant_ends (constant sign behind semicolon name stands number end is) = past_name name then past stands then past number then past end

pub constants_ends : {all rest : List Item} {before consts : List Const} → MoreConstants before all consts rest → Ends all rest
constants_ends (no_constant is none) = itself _ _ none
constants_ends (one_constant behind read more) = constant_ends read then constants_ends more

pub row_ends : {clock : Named} {all rest : List Item} {before locals : List Local} → RegisterRow clock before all locals rest → Ends all rest
row_ends (register_row colon behind semicolon names stands shape end is) = names_ends names then past stands then shape_ends shape then past end

pub rows_ends : {clock : Named} {all rest : List Item} {before locals : List Local} → MoreRegisters clock before all locals rest → Ends all rest
rows_ends (no_register is none) = itself _ _ none
rows_ends (next_register behind read more) = row_ends read then rows_ends more

pub registers_ends : {all rest : List Item} {before locals : List Local} → Registers before all locals rest → Ends all rest
registers_ends (registers first close second behind opens clock end read more) = past opens then past_name clock then past end then row_ends read then rows_ends more

pub kind_ends : {all rest : List Item} {kind : LocalKind} → VariableKind all kind rest → Ends all rest
kind_ends (variable t read is) = shape_ends read
kind_ends (instance n read is) = past_name read

pub variable_ends : {all rest : List Item} {before locals : List Local} → VariableRow before all locals rest → Ends all rest
variable_ends (variable_row colon behind semicolon names stands kind end is) = names_ends names then past stands then kind_ends kind then past end

pub variables_ends : {all rest : List Item} {before locals : List Local} → MoreVariables before all locals rest → Ends all rest
variables_ends (no_variable is none) = itself _ _ none
variables_ends (next_variable behind read more) = variable_ends read then variables_ends more

pub declarations_ends : {all rest : List Item} {consts consts' : List Const} {locals locals' : List Local} → Declarations consts locals all consts' locals' rest → Ends all rest
declarations_ends (no_declaration one two none) = itself _ _ none
declarations_ends (with_constants first behind stands read more) = past stands then constants_ends read then declarations_ends more
declarations_ends (with_registers first behind stands read more) = past stands then registers_ends read then declarations_ends more
declarations_ends (with_variables first behind stands read more) = past stands then variables_ends read then declarations_ends more

pub module_ends : {all rest : List Item} {m : ModuleTree} → OneModule all m rest → Ends all rest
module_ends (one_module first paren second close semicolon third fourth fifth sixth dot begins title opens ports end stands declared body ends name stops is) =
    past begins then past_name title then past opens then ports_ends ports then past end then past stands then declarations_ends declared then begun_ends body then
    past ends then past_name name then past stops

pub arguments_behind_ends : {all rest : List Item} {args : List ActualTree} → ArgumentsBehind all args rest → Ends all rest
arguments_behind_ends h = argument_ends h.first_read then arguments_ends h.more_read

-- an expression that is too long within an end is so within the whole
pub within_end : (l : Language) {all mid : List Item} → Ends all mid → (f : Fault) → LongWithin l mid f → LongWithin l all f
within_end l {all = all} {mid = mid} e (fault.Long left) h =
    let splits : all ≡ take e.count all ++ mid = sym (ap (λ m. take e.count all ++ m) e.is ∙ take-append-drop e.count all) in
    record {
      before = take e.count all ++ h.before;
      here = h.here;
      splits = splits ∙ (ap (λ m. take e.count all ++ m) h.splits ∙ sym (append_assoc (take e.count all) h.before h.here));
      long = h.long;
    }
within_end l e (fault.Syntax left) h = tt
within_end l e fault.Memory h = tt

-- the fault of a call that reads such an end, as `?` hands it on
pub long_on : {X : Type 0} {all mid : List Item} (f : Fault) (r : Result X Fault) → Ends all mid → IsErrAnd r (λ g. g ≡ f) → LongWithin Design mid f →
    IfErr r (LongWithin Design all)
long_on {all = all} f r e h p = hands_on (LongWithin Design all) f r h (within_end Design e f p)

-- as it is
pub long_in : {X : Type 0} {all mid : List Item} (r : Result X Fault) → Ends all mid → IfErr r (LongWithin Design mid) → IfErr r (LongWithin Design all)
long_in (Ok x) e h = tt
long_in (Err f) e h = within_end Design e f h
