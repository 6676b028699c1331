-- The signals of a design in their order: the ports of the root in text order and then its local names in text
-- order, where an instance is replaced at its place by the signals of its module in their order. The clock of
-- the root is one of them, and no clock port of an instance is.
use Rattle.std.specs.Prelude.{ℕ, suc, ◌+◌, max, sum, Bool, true, false, if◌then◌else◌, bytes_eq, List, [], ◌∷◌, ◌++◌, map, flat_map, reverse}
use Rattle.lola_tree.specs.declared.named.Shape.{Shape}
use Rattle.lola_tree.specs.declared.named.Shape.TheVariants as shape
use Rattle.lola_tree.specs.declared.module.Way.{Way}
use Rattle.lola_tree.specs.declared.module.Way.TheVariants.{Inward, Outward, Both}
use Rattle.lola_tree.specs.declared.module.Port.{Port}
use Rattle.lola_tree.specs.declared.module.LocalKind.{LocalKind}
use Rattle.lola_tree.specs.declared.module.LocalKind.TheVariants.{Reg, Var, Inst}
use Rattle.lola_tree.specs.declared.module.Local.{Local}
use Rattle.lola_tree.specs.Tree.{ModuleTree, SourceTree}
use Rattle.lola_tree.specs.Names.{Names, names_of, count_number}
use Rattle.lola_tree.specs.Value.{Path, or_zero}
use Rattle.lola_bits.specs.Names.{is_among}
use Rattle.lola_tree.specs.design.Clocks.{clocks_in, clock_ports}

-- what a signal is: the clock of the root, another IN port of the root, an INOUT port of the root, a register,
-- or anything else
pub data Kind : Type 0 where
  clock : Kind
  input : Kind
  pad : Kind
  wire : Kind
  register : Kind

-- a signal, with its type, the counts of which a module's names give
pub record Signal : Type 0 where
  pub path : Path
  pub kind : Kind
  pub names : Names
  pub type : Shape

-- the ports of the root
abbrev pub root_kind : Way → Bool → Kind
root_kind Inward true = clock
root_kind Inward false = input
root_kind Outward is_clock = wire
root_kind Both is_clock = pad

abbrev pub root_port : Names → List (List ℕ) → Port → Signal
root_port names clocks p = record { path = p.name ∷ []; kind = root_kind p.way (is_among clocks p.name); names = names; type = p.shape }

abbrev pub root_ports : Names → List (List ℕ) → List Port → List Signal
root_ports names clocks ports = map (root_port names clocks) ports

-- a port of an instance that is a signal: any but its clock
abbrev pub shown_port : Way → Bool → Signal → List Signal
shown_port Inward true x = []
shown_port Inward false x = x ∷ []
shown_port Outward is_clock x = x ∷ []
shown_port Both is_clock x = x ∷ []

-- the ports of an instance at a path
abbrev pub instance_port : Names → List (List ℕ) → Path → Port → List Signal
instance_port names clocks q p =
    shown_port p.way (is_among clocks p.name) (record { path = q ++ p.name ∷ []; kind = wire; names = names; type = p.shape })

abbrev pub instance_ports : Names → List (List ℕ) → Path → List Port → List Signal
instance_ports names clocks q ports = flat_map (instance_port names clocks q) ports

-- a local name; `inside` has the signals of an earlier module, by its name and path
abbrev pub kind_signals : (List ℕ → Path → List Signal) → Names → Path → LocalKind → List Signal
kind_signals inside names q (Reg under type) = record { path = q; kind = register; names = names; type = type } ∷ []
kind_signals inside names q (Var type) = record { path = q; kind = wire; names = names; type = type } ∷ []
kind_signals inside names q (Inst of) = inside of.name q

abbrev pub local_signals : (List ℕ → Path → List Signal) → Names → Path → List Local → List Signal
local_signals inside names p locals = flat_map (λ (l : Local). kind_signals inside names (p ++ l.name ∷ []) l.kind) locals

-- an instance at a path; its module's signals
abbrev pub signals_at : (List ℕ → List Bool) → (List ℕ → Path → List Signal) → ModuleTree → Path → List Signal
signals_at ports inside m p = instance_ports (names_of m) (clocks_in ports m) p m.ports ++ local_signals inside (names_of m) p m.locals

-- the same of an earlier module by its name; the modules stand in reverse order, the nearest first
abbrev pub signals_inside : List ModuleTree → List ℕ → Path → List Signal
signals_inside [] name p = []
signals_inside (m ∷ earlier) name p =
    if bytes_eq m.name name then signals_at (clock_ports earlier) (signals_inside earlier) m p else signals_inside earlier name p

abbrev pub root_signals : List ModuleTree → List Signal
root_signals [] = []
root_signals (m ∷ earlier) =
    root_ports (names_of m) (clocks_in (clock_ports earlier) m) m.ports ++ local_signals (signals_inside earlier) (names_of m) [] m.locals

-- all signals of a design in their order
abbrev pub signals : SourceTree → List Signal
signals S = root_signals (reverse S.modules)

abbrev pub signal_paths : SourceTree → List Path
signal_paths S = map (λ (s : Signal). s.path) (signals S)

-- how many elements a type has: a vector is one
abbrev pub elements : Names → Shape → ℕ
elements names (shape.Vector width) = 1
elements names (shape.Array count width) = or_zero (count_number names count)

-- how many instances the root has, at all depths
abbrev pub kind_instances : (List ℕ → ℕ) → LocalKind → ℕ
kind_instances inside (Reg under type) = 0
kind_instances inside (Var type) = 0
kind_instances inside (Inst of) = suc (inside of.name)

abbrev pub instances_at : (List ℕ → ℕ) → ModuleTree → ℕ
instances_at inside m = sum (map (λ (l : Local). kind_instances inside l.kind) m.locals)

abbrev pub instances_inside : List ModuleTree → List ℕ → ℕ
instances_inside [] name = 0
instances_inside (m ∷ earlier) name = if bytes_eq m.name name then instances_at (instances_inside earlier) m else instances_inside earlier name

abbrev pub root_instances : List ModuleTree → ℕ
root_instances [] = 0
root_instances (m ∷ earlier) = instances_at (instances_inside earlier) m

-- the signals, each element of an array counted, and the instances
abbrev pub size : SourceTree → ℕ
size S = sum (map (λ (s : Signal). elements s.names s.type) (signals S)) + root_instances (reverse S.modules)

-- how deep modules stand in one another: one without instances is 1 high
abbrev pub kind_height : (List ℕ → ℕ) → LocalKind → ℕ
kind_height inside (Reg under type) = 0
kind_height inside (Var type) = 0
kind_height inside (Inst of) = inside of.name

abbrev pub locals_height : (List ℕ → ℕ) → List Local → ℕ
locals_height inside [] = 0
locals_height inside (l ∷ locals) = max (kind_height inside l.kind) (locals_height inside locals)

abbrev pub height_inside : List ModuleTree → List ℕ → ℕ
height_inside [] name = 0
height_inside (m ∷ earlier) name = if bytes_eq m.name name then suc (locals_height (height_inside earlier) m.locals) else height_inside earlier name

abbrev pub root_height : List ModuleTree → ℕ
root_height [] = 0
root_height (m ∷ earlier) = suc (locals_height (height_inside earlier) m.locals)

-- the height of a design
abbrev pub height : SourceTree → ℕ
height S = root_height (reverse S.modules)
