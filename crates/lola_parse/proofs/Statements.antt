-- Where names, arguments, statements or a body stand at the front and may end, their readers can only find
-- their parts.
use Rattle.std.proofs.Common.{◌≡◌, ℕ, true, false, ◌⊎◌, inl, inr, List, [], ◌∷◌, ◌++◌, Some, None, refl, sym, ap, subst, ◌∙◌}
use Rattle.lola_tree.specs.declared.named.Named.{Named}
use Rattle.lola_tree.specs.Tree.{Tree, ActualTree, StmtTree, call, pad}
use Rattle.lola_parse.specs.declared.symbol.Symbol.{Symbol}
use Rattle.lola_parse.specs.declared.symbol.Symbol.TheVariants as s
use Rattle.lola_parse.specs.declared.symbol.Language.TheVariants.{Design}
use Rattle.lola_parse.specs.Symbols.{Item}
use Rattle.lola_parse.specs.Grammar.{Stands}
use Rattle.lola_parse.specs.Design.{Outermost, Argument, argument, MoreArguments, no_argument, one_argument, Statement, assigned, placed, called, driven, Optional, empty, one_statement, MoreStatements, no_statement, next_statement, Body, statements, MoreNames, no_name, one_name, NameList, name_list}
use Rattle.lola_parse.specs.Behind.{NameRead, AssignedBehind, PlacedBehind, ArgumentsBehind, CalledBehind, PadBehind, NamedStatement, with_value, with_place, with_arguments}
use Rattle.lola_parse.specs.MayEnd.{Before, ends_statement, StatementEnds}
use Rattle.lola_parse.specs.Read.{front, goes_on, Stops, Anywhere}
use Rattle.lola_parse.proofs.Follow.{one_front, front_is, name_stands}
use Rattle.lola_parse.proofs.Refer.{two_symbols}
use Rattle.lola_parse.proofs.Steps.{Symbol_then, Read_then, clash}

-- name {"," name}
abbrev pub Names_then : List Named → List Named → List Item → List Item → Type 0
Names_then before names rest all = Read_then (NameRead all) Anywhere (λ n mid. MoreNames (before ++ n ∷ []) mid names rest)

pub names_step : {all rest : List Item} {names : List Named} → NameList all names rest → Names_then [] names rest all
names_step (name_list {n = n} behind first more) = (n, behind, first, tt, more)

pub more_names_step : {all rest first : List Item} {before names : List Named} {at : ℕ} → MoreNames before all names rest → Before s.Colon rest →
    Stands s.Comma at all first → Names_then before names rest first
more_names_step (no_name is none) ends stands = clash (front_is stands) (sym (ap front none) ∙ ends) (λ e. cc)
more_names_step (one_name {n = n} next behind stood read more) ends stands =
    (n, behind, subst (λ all. NameRead all n behind) (one_front stood stands).rest_is read, tt, more)

pub more_names_over : {all rest : List Item} {before names : List Named} → MoreNames before all names rest → (front all ≡ s.Comma → ⊥) →
    (before ≡ names) × (all ≡ rest)
more_names_over (no_name is none) over = (sym is, sym none)
more_names_over (one_name next behind stood read more) over = absurd (over (front_is stood))

-- an argument is an expression
pub argument_step : {all rest : List Item} {a : ActualTree} → Argument all a rest → (e : Tree) × Outermost Design all e rest
argument_step (argument e read is) = (e, read)

-- an expression stops before such a symbol
pub stops_at : {symbol : Symbol} {at : ℕ} {all rest : List Item} → Stands symbol at all rest → goes_on symbol ≡ false → Stops all
stops_at stands is = record { stops = ap goes_on (front_is stands) ∙ is }

pub stops_before : {symbol : Symbol} {all : List Item} → front all ≡ symbol → goes_on symbol ≡ false → Stops all
stops_before before is = record { stops = ap goes_on before ∙ is }

ended : (symbol : Symbol) → ends_statement symbol ≡ true → goes_on symbol ≡ false
ended s.Semicolon is = refl
ended s.End is = refl
ended other is = absurd (let e : false ≡ true = is in cc)

pub statement_stops : {all : List Item} → StatementEnds all → Stops all
statement_stops {all = all} is = record { stops = ended (front all) is }

-- expr {"," expr}
abbrev pub Arguments_then : List ActualTree → List ActualTree → List Item → List Item → Type 0
Arguments_then before args rest all = Read_then (Argument all) Stops (λ a mid. MoreArguments (before ++ a ∷ []) mid args rest)

pub more_arguments_stop : {all rest : List Item} {before args : List ActualTree} → MoreArguments before all args rest → Before s.CloseParen rest → Stops all
more_arguments_stop (no_argument is none) ends = stops_before (sym (ap front none) ∙ ends) refl
more_arguments_stop (one_argument first behind stands a more) ends = stops_at stands refl

pub arguments_step : {all rest : List Item} {args : List ActualTree} → ArgumentsBehind all args rest → Before s.CloseParen rest → Arguments_then [] args rest all
arguments_step h ends = (h.first, h.behind, h.first_read, more_arguments_stop h.more_read ends, h.more_read)

pub more_arguments_step : {all rest first : List Item} {before args : List ActualTree} {at : ℕ} → MoreArguments before all args rest → Before s.CloseParen rest →
    Stands s.Comma at all first → Arguments_then before args rest first
more_arguments_step (no_argument is none) ends stands = clash (front_is stands) (sym (ap front none) ∙ ends) (λ e. cc)
more_arguments_step (one_argument {a = a} next behind stood read more) ends stands =
    (a, behind, subst (λ all. Argument all a behind) (one_front stood stands).rest_is read, more_arguments_stop more ends, more)

pub more_arguments_over : {all rest : List Item} {before args : List ActualTree} → MoreArguments before all args rest → (front all ≡ s.Comma → ⊥) →
    (before ≡ args) × (all ≡ rest)
more_arguments_over (no_argument is none) over = (sym is, sym none)
more_arguments_over (one_argument next behind stood read more) over = absurd (over (front_is stood))

-- expr {"," expr} ")", behind the "(" of a call
abbrev pub Called_then : List ℕ → ℕ → StmtTree → List Item → List ActualTree → List Item → Type 0
Called_then name at t rest args all = Symbol_then s.CloseParen (λ mid. (mid ≡ rest) × (call name args at ≡ t)) all

pub called_step : {name : List ℕ} {at : ℕ} {all rest : List Item} {t : StmtTree} → CalledBehind name at all t rest →
    Read_then (ArgumentsBehind all) (Before s.CloseParen) (Called_then name at t rest)
called_step {rest = rest} h = (h.args, h.close, h.args_read, front_is h.close_passed.1, (rest, h.close_passed, (refl, sym h.tree_is)))

-- "(" name "," name "," expr "," expr ")", behind a TS
abbrev pub Pad_release : ℕ → StmtTree → List Item → Named → Named → ActualTree → ActualTree → List Item → Type 0
Pad_release at t rest io inner value release all = Symbol_then s.CloseParen (λ mid. (mid ≡ rest) × (pad io inner value release at ≡ t)) all

abbrev pub Pad_value : ℕ → StmtTree → List Item → Named → Named → ActualTree → List Item → Type 0
Pad_value at t rest io inner value all = Symbol_then s.Comma (λ mid. Read_then (Argument mid) Stops (Pad_release at t rest io inner value)) all

abbrev pub Pad_inner : ℕ → StmtTree → List Item → Named → Named → List Item → Type 0
Pad_inner at t rest io inner all = Symbol_then s.Comma (λ mid. Read_then (Argument mid) Stops (Pad_value at t rest io inner)) all

abbrev pub Pad_io : ℕ → StmtTree → List Item → Named → List Item → Type 0
Pad_io at t rest io all = Symbol_then s.Comma (λ mid. Read_then (NameRead mid) Anywhere (Pad_inner at t rest io)) all

abbrev pub Pad_open : ℕ → StmtTree → List Item → List Item → Type 0
Pad_open at t rest all = Symbol_then s.OpenParen (λ mid. Read_then (NameRead mid) Anywhere (Pad_io at t rest)) all

pub pad_step : {at : ℕ} {all rest : List Item} {t : StmtTree} → PadBehind at all t rest → Pad_open at t rest all
pad_step {rest = rest} h =
    let last : Pad_release _ _ rest h.io h.inner h.value h.release h.close = (rest, h.close_passed, (refl, sym h.tree_is)) in
    let fourth : Pad_value _ _ rest h.io h.inner h.value h.comma3 =
    (h.fourth, h.comma3_passed, (h.release, h.close, h.release_read, stops_at h.close_passed.1 refl, last)) in
    let third : Pad_inner _ _ rest h.io h.inner h.comma2 = (h.third, h.comma2_passed, (h.value, h.comma3, h.value_read, stops_at h.comma3_passed.1 refl, fourth)) in
    let second : Pad_io _ _ rest h.io h.comma = (h.second, h.comma_passed, (h.inner, h.comma2, h.inner_read, tt, third)) in
    (h.first, h.open_passed, (h.io, h.comma, h.io_read, tt, second))

-- statements
pub statement_pad : {all rest first : List Item} {t : StmtTree} {at : ℕ} → Statement all t rest → Stands s.Ts at all first → PadBehind at first t rest
statement_pad (assigned sign behind name sign_stands value is) stands = two_symbols (name_stands name) stands (λ e. cc)
statement_pad (placed bracket first close sign behind name opens place end sign_stands value is) stands = two_symbols (name_stands name) stands (λ e. cc)
statement_pad (called paren first behind close name opens a more end is) stands = two_symbols (name_stands name) stands (λ e. cc)
statement_pad {rest = rest} {t = t} {at = at} (driven {io = io} {inner = inner} {value = value} {release = release} {at = place}
    paren first comma second comma2 third comma3 fourth close stood opens io_read c inner_read d value_read f release_read end is) stands =
    let same = one_front stood stands in
    subst (λ paren. PadBehind at paren t rest) same.rest_is (subst (λ at. PadBehind at paren t rest) same.at_is record {
      io = io;
      inner = inner;
      value = value;
      release = release;
      first = first;
      comma = comma;
      second = second;
      comma2 = comma2;
      third = third;
      comma3 = comma3;
      fourth = fourth;
      close = close;
      open_passed = (_, opens);
      io_read = io_read;
      comma_passed = (_, c);
      inner_read = inner_read;
      comma2_passed = (_, d);
      value_read = value_read;
      comma3_passed = (_, f);
      release_read = release_read;
      close_passed = (_, end);
      tree_is = is;
    })

abbrev pub Named_then : StmtTree → List Item → List Item → Type 0
Named_then t rest all = Read_then (NameRead all) Anywhere (λ n mid. NamedStatement n.name n.at mid t rest)

pub statement_name : {all rest : List Item} {t : StmtTree} → Statement all t rest → (front all ≡ s.Ts → ⊥) → Named_then t rest all
statement_name (assigned {name = name} {e = e} {at = at} sign behind read stands value is) none =
    (record { name = name; at = at }, sign, read, tt, with_value behind stands record { value = e; value_read = value; tree_is = is })
statement_name (placed {name = name} {e = e} {place = place} {at = at} {equals = equals} bracket first close sign behind read opens place_read end stands value is) none = (
  record { name = name; at = at },
  bracket,
  read,
  tt,
  with_place first opens record {
    place = place;
    value = e;
    equals = equals;
    close = close;
    sign = sign;
    behind = behind;
    place_read = place_read;
    close_passed = (_, end);
    sign_passed = stands;
    value_read = value;
    tree_is = is;
  },
)
statement_name (called {name = name} {a = a} {args = args} {at = at} paren first behind close read opens one more end is) none = (
  record { name = name; at = at },
  paren,
  read,
  tt,
  with_arguments first opens record {
    args = args;
    close = close;
    args_read = record { first = a; behind = behind; first_read = one; more_read = more };
    close_passed = (_, end);
    tree_is = is;
  },
)
statement_name (driven paren first comma second comma2 third comma3 fourth close stood opens io_read c inner_read d value_read f release_read end is) none =
    absurd (none (front_is stood))

pub statement_front : {all rest : List Item} {t : StmtTree} → Statement all t rest → (front all ≡ s.Name) ⊎ (front all ≡ s.Ts)
statement_front (assigned sign behind name stands value is) = inl (front_is (name_stands name))
statement_front (placed bracket first close sign behind name opens place end stands value is) = inl (front_is (name_stands name))
statement_front (called paren first behind close name opens a more end is) = inl (front_is (name_stands name))
statement_front (driven paren first comma second comma2 third comma3 fourth close stood opens io_read c inner_read d value_read f release_read end is) =
    inr (front_is stood)

-- behind a name
pub named_value : {name : List ℕ} {at equals : ℕ} {all rest first : List Item} {t : StmtTree} → NamedStatement name at all t rest → Stands s.Assign equals all first →
    AssignedBehind name None at equals first t rest
named_value {name = name} {at = at} {equals = equals} {rest = rest} {t = t} (with_value behind stood h) stands =
    let same = one_front stood stands in
    subst (λ all. AssignedBehind name None at equals all t rest) same.rest_is (subst (λ equals. AssignedBehind name None at equals behind t rest) same.at_is h)
named_value (with_place behind stood h) stands = two_symbols stood stands (λ e. cc)
named_value (with_arguments behind stood h) stands = two_symbols stood stands (λ e. cc)

pub named_place : {name : List ℕ} {at place_at : ℕ} {all rest first : List Item} {t : StmtTree} → NamedStatement name at all t rest →
    Stands s.OpenBracket place_at all first → PlacedBehind name at place_at first t rest
named_place (with_value behind stood h) stands = two_symbols stood stands (λ e. cc)
named_place {name = name} {at = at} {place_at = place_at} {rest = rest} {t = t} (with_place behind stood h) stands =
    let same = one_front stood stands in
    subst (λ all. PlacedBehind name at place_at all t rest) same.rest_is (subst (λ place_at. PlacedBehind name at place_at behind t rest) same.at_is h)
named_place (with_arguments behind stood h) stands = two_symbols stood stands (λ e. cc)

pub named_arguments : {name : List ℕ} {at open_at : ℕ} {all rest first : List Item} {t : StmtTree} → NamedStatement name at all t rest →
    Stands s.OpenParen open_at all first → CalledBehind name at first t rest
named_arguments (with_value behind stood h) stands = two_symbols stood stands (λ e. cc)
named_arguments (with_place behind stood h) stands = two_symbols stood stands (λ e. cc)
named_arguments {name = name} {at = at} {rest = rest} {t = t} (with_arguments behind stood h) stands =
    subst (λ all. CalledBehind name at all t rest) (one_front stood stands).rest_is h

pub named_none : {name : List ℕ} {at : ℕ} {all rest : List Item} {t : StmtTree} → NamedStatement name at all t rest → (front all ≡ s.Assign → ⊥) →
    (front all ≡ s.OpenBracket → ⊥) → (front all ≡ s.OpenParen → ⊥) → ⊥
named_none (with_value behind stood h) value place args = value (front_is stood)
named_none (with_place behind stood h) value place args = place (front_is stood)
named_none (with_arguments behind stood h) value place args = args (front_is stood)

-- expr "]" ":=" expr, behind the "[" of a place
abbrev pub Place_then : List ℕ → ℕ → ℕ → StmtTree → List Item → Tree → List Item → Type 0
Place_then name at place_at t rest place all =
    (equals : ℕ) × (behind : List Item) × (Stands s.Assign equals all behind) ×
    AssignedBehind name (Some record { value = place; at = place_at }) at equals behind t rest

abbrev pub Placed_then : List ℕ → ℕ → ℕ → StmtTree → List Item → List Item → Type 0
Placed_then name at place_at t rest all =
    Read_then (Outermost Design all) Stops (λ place mid. Symbol_then s.CloseBracket (Place_then name at place_at t rest place) mid)

pub placed_step : {name : List ℕ} {at place_at : ℕ} {all rest : List Item} {t : StmtTree} → PlacedBehind name at place_at all t rest → Placed_then name at place_at t rest all
placed_step h = (
  h.place,
  h.close,
  h.place_read,
  stops_at h.close_passed.1 refl,
  (h.sign, h.close_passed, (h.equals, h.behind, h.sign_passed, record { value = h.value; value_read = h.value_read; tree_is = h.tree_is })),
)

-- [stmt] {";" [stmt]}
pub optional_statement : {all rest : List Item} {before body : List StmtTree} → Optional before all body rest → StatementEnds rest → ends_statement (front all) ≡ false →
    Read_then (Statement all) Stops (λ t mid. (mid ≡ rest) × (before ++ t ∷ [] ≡ body))
optional_statement (empty is none) ends not =
    absurd (let e : true ≡ false = sym ends ∙ (ap (λ all. ends_statement (front all)) none ∙ not) in cc)
optional_statement {rest = rest} (one_statement t read is) ends not = (t, rest, read, statement_stops ends, (refl, sym is))

pub optional_none : {all rest : List Item} {before body : List StmtTree} → Optional before all body rest → (front all ≡ s.Name → ⊥) → (front all ≡ s.Ts → ⊥) →
    (before ≡ body) × (all ≡ rest)
optional_none (empty is none) name ts = (sym is, sym none)
optional_none (one_statement t read is) name ts = elim (statement_front read) [ inl e ↦ absurd (name e) | inr e ↦ absurd (ts e) ]

abbrev pub Statements_then : List StmtTree → List StmtTree → List Item → List Item → Type 0
Statements_then before body rest all = Read_then (Optional before all) StatementEnds (λ longer mid. MoreStatements longer mid body rest)

pub more_statements_end : {all rest : List Item} {before body : List StmtTree} → MoreStatements before all body rest → Before s.End rest → StatementEnds all
more_statements_end (no_statement is none) ends = ap ends_statement (sym (ap front none) ∙ ends)
more_statements_end (next_statement first behind stands one more) ends = ap ends_statement (front_is stands)

pub body_step : {all rest : List Item} {body : List StmtTree} → Body all body rest → Before s.End rest → Statements_then [] body rest all
body_step (statements {first = one} behind read more) ends = (one, behind, read, more_statements_end more ends, more)

pub more_statements_step : {all rest first : List Item} {before body : List StmtTree} {at : ℕ} → MoreStatements before all body rest → Before s.End rest →
    Stands s.Semicolon at all first → Statements_then before body rest first
more_statements_step (no_statement is none) ends stands = clash (front_is stands) (sym (ap front none) ∙ ends) (λ e. cc)
more_statements_step {before = before} (next_statement {longer = longer} next behind stood read more) ends stands =
    (longer, behind, subst (λ all. Optional before all longer behind) (one_front stood stands).rest_is read, more_statements_end more ends, more)

pub more_statements_over : {all rest : List Item} {before body : List StmtTree} → MoreStatements before all body rest → (front all ≡ s.Semicolon → ⊥) →
    (before ≡ body) × (all ≡ rest)
more_statements_over (no_statement is none) over = (sym is, sym none)
more_statements_over (next_statement next behind stood read more) over = absurd (over (front_is stood))

pub front_in : {here symbol : Symbol} → here ≡ symbol → (symbol ≡ s.Name) ⊎ (symbol ≡ s.Ts) → ends_statement here ≡ false
front_in is (inl e) = ap ends_statement (is ∙ e)
front_in is (inr e) = ap ends_statement (is ∙ e)
