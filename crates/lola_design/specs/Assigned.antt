-- Each variable, register and port that must be assigned is so once: module by module.
use Rattle.std.specs.Prelude.{◌≡◌, ℕ, ◌+◌, Bool, true, false, if◌then◌else◌, bytes_eq, List, [], ◌∷◌, ◌++◌, map, length, flat_map}
use Rattle.lola_tree.specs.declared.module.Way.{Way}
use Rattle.lola_tree.specs.declared.module.Way.TheVariants.{Inward, Outward, Both}
use Rattle.lola_tree.specs.declared.module.Port.{Port}
use Rattle.lola_tree.specs.declared.module.LocalKind.{LocalKind}
use Rattle.lola_tree.specs.declared.module.LocalKind.TheVariants.{Reg, Var, Inst}
use Rattle.lola_tree.specs.declared.module.Local.{Local}
use Rattle.lola_tree.specs.Tree.{ActualTree, StmtTree, assignment, call, pad, ModuleTree}
use Rattle.lola_tree.specs.Value.{Path}
use Rattle.lola_bits.specs.Names.{is_among}
use Rattle.lola_tree.specs.Signals.{register_names}
use Rattle.lola_tree.specs.design.Places.{Pads, pad_of, passed_pads, Caller}
use Rattle.lola_tree.specs.design.Calls.{bare_path, args_of}
use Rattle.lola_design.specs.Paths.{count}
use Rattle.lola_design.specs.Drives.{pad_names}

-- the ports of an instance that have a value from its call, and the OUT ports
abbrev pub entered_way : Way → Bool → Path → List Path
entered_way Inward true q = []
entered_way Inward false q = q ∷ []
entered_way Outward clock q = []
entered_way Both clock q = q ∷ []

abbrev pub entered_ports : List (List ℕ) → Path → List Port → List Path
entered_ports clocks q [] = []
entered_ports clocks q (p ∷ ports) = entered_way p.way (is_among clocks p.name) (q ++ p.name ∷ []) ++ entered_ports clocks q ports

abbrev pub out_way : Way → Path → List Path
out_way Inward q = []
out_way Outward q = q ∷ []
out_way Both q = []

abbrev pub out_ports : Path → List Port → List Path
out_ports q [] = []
out_ports q (p ∷ ports) = out_way p.way (q ++ p.name ∷ []) ++ out_ports q ports

-- the arguments of OUT ports
abbrev pub out_args : Path → List Port → List ActualTree → List Path
out_args p [] args = []
out_args p (port ∷ ports) [] = []
out_args p (port ∷ ports) (a ∷ args) = out_way port.way (p ++ bare_path a.value) ++ out_args p ports args

abbrev pub pad_paths : Pads → List Path
pad_paths pads = map (λ (p : List ℕ × Path). p.1) pads

abbrev pub var_path : LocalKind → Path → List Path
var_path (Reg clock type) q = []
var_path (Var type) q = q ∷ []
var_path (Inst of) q = []

-- the variables of a module at a path, and its registers
abbrev pub var_paths : Path → List Local → List Path
var_paths p [] = []
var_paths p (l ∷ locals) = var_path l.kind (p ++ l.name ∷ []) ++ var_paths p locals

abbrev pub reg_path : LocalKind → Path → List Path
reg_path (Reg clock type) q = q ∷ []
reg_path (Var type) q = []
reg_path (Inst of) q = []

abbrev pub reg_paths : Path → List Local → List Path
reg_paths p [] = []
reg_paths p (l ∷ locals) = reg_path l.kind (p ++ l.name ∷ []) ++ reg_paths p locals

-- what the statements of a module at a path assign, the registers that they set, and the pads that they drive
abbrev pub said_by : Path → ModuleTree → StmtTree → List Path
said_by p m (assignment name place e at equals) = if is_among (register_names m.locals) name then [] else (p ++ name ∷ []) ∷ []
said_by p m (call name args at) = []
said_by p m (pad io inner drive release at) = (p ++ inner.name ∷ []) ∷ []

abbrev pub stored_by : Path → ModuleTree → StmtTree → List Path
stored_by p m (assignment name place e at equals) = if is_among (register_names m.locals) name then (p ++ name ∷ []) ∷ [] else []
stored_by p m (call name args at) = []
stored_by p m (pad io inner drive release at) = []

abbrev pub driven_by : Pads → StmtTree → List Path
driven_by pads (assignment name place e at equals) = []
driven_by pads (call name args at) = []
driven_by pads (pad io inner drive release at) = pad_of pads io.name ∷ []

-- what the calls of instances assign, and the pads that they pass on
abbrev pub outs_inside : List ModuleTree → List ℕ → Caller → List Path
outs_inside [] name c = []
outs_inside (m ∷ earlier) name c = if bytes_eq m.name name then out_args c.path m.ports c.args else outs_inside earlier name c

abbrev pub pads_inside : List ModuleTree → List ℕ → Caller → List Path
pads_inside [] name c = []
pads_inside (m ∷ earlier) name c = if bytes_eq m.name name then pad_paths (passed_pads c.pads m.ports c.args) else pads_inside earlier name c

abbrev pub of_kind : (List ℕ → Caller → List Path) → ModuleTree → Path → Pads → List ℕ → LocalKind → List Path
of_kind inside m p pads name (Reg clock type) = []
of_kind inside m p pads name (Var type) = []
of_kind inside m p pads name (Inst of) = inside of.name (record { module_ = m; path = p; pads = pads; args = args_of m.body name })

abbrev pub of_locals : (List ℕ → Caller → List Path) → ModuleTree → Path → Pads → List Local → List Path
of_locals inside m p pads [] = []
of_locals inside m p pads (l ∷ locals) = of_kind inside m p pads l.name l.kind ++ of_locals inside m p pads locals

abbrev pub way_names : Way → List ℕ → List (List ℕ)
way_names Inward n = []
way_names Outward n = []
way_names Both n = n ∷ []

abbrev pub both_names : List Port → List (List ℕ)
both_names [] = []
both_names (p ∷ ports) = way_names p.way p.name ++ both_names ports

-- calls have as many arguments as ports
abbrev pub port_count : List ModuleTree → List ℕ → ℕ → ℕ
port_count [] name other = other
port_count (m ∷ earlier) name other = if bytes_eq m.name name then length m.ports else port_count earlier name other

abbrev pub AreAsMany : List ModuleTree → List ℕ → List ActualTree → Type 0
AreAsMany earlier name args = port_count earlier name (length args) ≡ length args

abbrev pub CallsFit : List ModuleTree → ModuleTree → LocalKind → List ℕ → Type 0
CallsFit earlier m (Reg clock type) name = Unit {0}
CallsFit earlier m (Var type) name = Unit {0}
CallsFit earlier m (Inst of) name = AreAsMany earlier of.name (args_of m.body name)

abbrev pub AllCallsFit : List ModuleTree → ModuleTree → List Local → Type 0
AllCallsFit earlier m [] = Unit {0}
AllCallsFit earlier m (l ∷ locals) = CallsFit earlier m l.kind l.name × AllCallsFit earlier m locals

-- a module behind some others assigns each OUT port, variable and register once, and drives or passes on each INOUT
-- port once, wherever it stands and whatever pads its INOUT ports stand for
pub record IsAssigned (earlier : List ModuleTree) (m : ModuleTree) : Type 0 where
  pub calls : AllCallsFit earlier m m.locals
  pub once : (x p : Path) (pads : Pads) → pad_names pads ≡ both_names m.ports →
      count x (flat_map (said_by p m) m.body) + count x (of_locals (outs_inside earlier) m p pads m.locals) ≡ count x (out_ports p m.ports) + count x (var_paths p m.locals)
  pub driven : (x p : Path) (pads : Pads) → pad_names pads ≡ both_names m.ports →
      count x (flat_map (driven_by pads) m.body) + count x (of_locals (pads_inside earlier) m p pads m.locals) ≡ count x (pad_paths pads)
  pub stored : (x p : Path) → count x (flat_map (stored_by p m) m.body) ≡ count x (reg_paths p m.locals)

-- all modules do; they stand in reverse order
abbrev pub AreAssigned : List ModuleTree → Type 0
AreAssigned [] = Unit {0}
AreAssigned (m ∷ earlier) = IsAssigned earlier m × AreAssigned earlier
