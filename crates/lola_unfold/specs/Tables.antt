-- What the tables of a module hold: the calls of its instances and the names of its clocks.
use Rattle.std.specs.Prelude.{ℕ, Bool, false, ◌||◌, cond, bytes_eq, string_bytes, List, [], ◌∷◌, ◌++◌, map, flat_map, Option, Some, None}
use Rattle.indexmap.specs.IndexMap.{get_by}
use Rattle.indexmap.specs.IndexSet.{contains_text}
use Rattle.lola_tree.specs.Tree.{ActualTree, actual_tree, StmtTree, assignment, call, pad}
use Rattle.lola_tree.specs.declared.expr.Actual.{Actual}
use Rattle.lola_tree.specs.declared.module.LocalKind.{LocalKind}
use Rattle.lola_tree.specs.declared.module.LocalKind.TheVariants.{Reg, Var, Inst}
use Rattle.lola_tree.specs.design.Calls.{bare_name}
use Rattle.lola_tree.specs.declared.module.Port.{Port}
use Rattle.lola_tree.specs.declared.module.Way.{Way}
use Rattle.lola_tree.specs.declared.module.Way.TheVariants.{Inward, Outward, Both}
use Rattle.lola_tree.specs.design.Clocks.{passed_clocks}
use Rattle.std.specs.Borrow.{Bor}
use Rattle.lola_unfold.specs.declared.calls.Calls.{Calls}
use Rattle.lola_unfold.specs.declared.clocks.Clocks.{Clocks}
use Rattle.lola_unfold.specs.declared.pads.Pads.{Pads}

-- the arguments of the first call of each name
abbrev pub Called : Type 0
Called = List ℕ → Option (List ActualTree)

abbrev pub no_calls : Called
no_calls name = None

abbrev pub first_call : Option (List ActualTree) → Option (List ActualTree) → Option (List ActualTree)
first_call None other = other
first_call (Some args) other = Some args

abbrev pub calls_with : Called → List ℕ → List ActualTree → Called
calls_with calls name args other = first_call (calls other) (cond (bytes_eq name other) (Some args) None)

abbrev pub calls_with_stmt : Called → StmtTree → Called
calls_with_stmt calls (assignment name place value at equals) = calls
calls_with_stmt calls (call name args at) = calls_with calls name args
calls_with_stmt calls (pad io inner value release at) = calls

abbrev pub calls_with_all : Called → List StmtTree → Called
calls_with_all calls [] = calls
calls_with_all calls (t ∷ body) = calls_with_all (calls_with_stmt calls t) body

abbrev pub some_args : Option (Bor (List Actual)) → Option (List ActualTree)
some_args None = None
some_args (Some args) = Some (map actual_tree args.now)

abbrev pub calls_in : Calls → Called
calls_in calls name = some_args (get_by (λ key. bytes_eq name (string_bytes key)) calls.entries)

-- no call has no arguments
abbrev pub args_or_none : Option (List ActualTree) → List ActualTree
args_or_none None = []
args_or_none (Some args) = args

-- the names that are clocks
abbrev pub Among : Type 0
Among = List ℕ → Bool

abbrev pub no_clock : Among
no_clock name = false

abbrev pub clocks_with : Among → List (List ℕ) → Among
clocks_with clocks [] = clocks
clocks_with clocks (c ∷ more) = clocks_with (λ name. bytes_eq c name || clocks name) more

abbrev pub clocks_found : Clocks → Among
clocks_found clocks name = contains_text clocks.names name

-- the clocks of a local name, where it is known which ports of modules are clocks and what the arguments of
-- instances are
abbrev pub clocks_by : (List ℕ → List Bool) → (List ℕ → List ActualTree) → List ℕ → LocalKind → List (List ℕ)
clocks_by ports args name (Reg clock type) = clock.name ∷ []
clocks_by ports args name (Var type) = []
clocks_by ports args name (Inst of) = passed_clocks (ports of.name) (args name)

-- the numbers of pads by the names of ports; the first of a name counts
abbrev pub PadNumbers : Type 0
PadNumbers = List ℕ → Option ℕ

abbrev pub no_pads : PadNumbers
no_pads name = None

abbrev pub first_pad : Option ℕ → Option ℕ → Option ℕ
first_pad None other = other
first_pad (Some n) other = Some n

abbrev pub pads_with : PadNumbers → List ℕ → ℕ → PadNumbers
pads_with pads name n other = first_pad (pads other) (cond (bytes_eq name other) (Some n) None)

abbrev pub pads_with_all : PadNumbers → List (List ℕ × ℕ) → PadNumbers
pads_with_all pads [] = pads
pads_with_all pads (p ∷ more) = pads_with_all (pads_with pads p.0 p.1) more

abbrev pub pads_found : Pads → PadNumbers
pads_found pads name = get_by (λ key. bytes_eq name (string_bytes key)) pads.entries

abbrev pub pad_or : ℕ → Option ℕ → ℕ
pad_or none None = none
pad_or none (Some n) = n

abbrev pub pad_number : Pads → List ℕ → ℕ
pad_number pads name = pad_or pads.none (pads_found pads name)

-- an INOUT port stands for a pad
abbrev pub way_numbers : Way → List ℕ → ℕ → List (List ℕ × ℕ)
way_numbers Inward name n = []
way_numbers Outward name n = []
way_numbers Both name n = (name, n) ∷ []

-- those of the root for themselves, by the numbers of their paths
abbrev pub own_numbers : (List ℕ → ℕ) → List Port → List (List ℕ × ℕ)
own_numbers number ports = flat_map (λ (p : Port). way_numbers p.way p.name (number p.name)) ports

-- and those of an instance for what their arguments stand for
abbrev pub passed_numbers : (List ℕ → ℕ) → List Port → List ActualTree → List (List ℕ × ℕ)
passed_numbers pads [] args = []
passed_numbers pads (p ∷ ports) [] = []
passed_numbers pads (p ∷ ports) (a ∷ args) = way_numbers p.way p.name (pads (bare_name a.value)) ++ passed_numbers pads ports args
