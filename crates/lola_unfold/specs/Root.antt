-- All that stands in a design, from its root on. The modules stand in reverse order, the root first.
use Rattle.std.specs.Prelude.{◌≡◌, ℕ, ◌≤◌, cond, List, [], ◌∷◌, ◌++◌, map, length, reverse, replicate, Option, Some, None}
use Rattle.lola_tree.specs.declared.module.Port.{Port}
use Rattle.lola_tree.specs.Tree.{ModuleTree, SourceTree}
use Rattle.lola_tree.specs.Names.{names_of}
use Rattle.lola_tree.specs.design.Places.{Place, root_places}
use Rattle.lola_tree.specs.design.Signals.{Signal, local_signals, signals_inside, root_ports, root_signals}
use Rattle.lola_design.specs.Once.{AllOnce}
use Rattle.lola_design.specs.Graph.{number_of}
use Rattle.lola_flat.specs.Numbers.{first_numbers}
use Rattle.lola_flat.specs.Tree.{SignalTree, signal_tree, FlatTree}
use Rattle.lola_flat.specs.declared.design.Signal.{Signal as FlatSignal}
use Rattle.lola_unfold.specs.declared.slots.Slots.{Slots as SlotTable}
use Rattle.lola_unfold.specs.declared.part.Part.{Part}
use Rattle.lola_unfold.specs.Translated.{Numbers}
use Rattle.lola_unfold.specs.Tables.{Among, no_clock}
use Rattle.lola_unfold.specs.Measured.{is_hidden}
use Rattle.lola_unfold.specs.Offsets.{laid_of, inners_in, IsTable, AreTables}
use Rattle.lola_unfold.specs.Flat.{clock_name, flat_signal, root_name, port_count}
use Rattle.lola_unfold.specs.Pieces.{MadeTree, grow, Piece, piece}
use Rattle.lola_unfold.specs.Parts.{IsPart, AreParts, entered_places}

-- the root stands at the empty path, and nobody calls it
pub record IsRoot (a : Place) : Type 0 where
  pub path : a.path ≡ []
  pub caller : a.caller ≡ None

-- what it adds
abbrev pub root_piece_of : Numbers → List ModuleTree → Place → Piece
root_piece_of N earlier a =
    piece N (root_ports (names_of a.module_) a.clocks a.module_.ports ++ local_signals (signals_inside earlier) (names_of a.module_) a.path a.module_.locals) (entered_places earlier a)

-- what is known of a root and of the modules before it
pub record IsReady (tables : List SlotTable) (parts : List Part) (part : Part) (at count : ℕ) (earlier : List ModuleTree) (m : ModuleTree) : Type 0 where
  pub all_tables : AreTables tables earlier
  pub all_parts : AreParts parts earlier
  pub is_part : IsPart part earlier m
  pub is_at : at ≡ length earlier
  pub table : IsTable tables (length earlier) no_clock earlier m
  pub counts : count ≡ (laid_of no_clock (inners_in earlier) m).count
  pub once : AllOnce (m ∷ earlier)

-- the numbers of paths
abbrev pub root_numbers : List ModuleTree → Numbers
root_numbers modules = number_of (map (λ (s : Signal). s.path) (root_signals modules))

-- all signals without their equations, and by number all that gives them values
abbrev pub none_made : ℕ → MadeTree
none_made count = record { heads = []; equations = replicate count None; nexts = replicate count None }

abbrev pub all_made : ℕ → List ModuleTree → MadeTree
all_made count modules = grow (none_made count) (piece (root_numbers modules) (root_signals modules) (root_places modules))

-- a source of some modules
abbrev pub turned : List ModuleTree → SourceTree
turned modules = record { modules = reverse modules }

-- the signals of its flat design
abbrev pub all_signals : List ModuleTree → List SignalTree
all_signals modules = map (flat_signal (turned modules)) (root_signals modules)

-- the name of the clock among the ports of the root
abbrev pub first_clock : Among → List Port → Option (List ℕ)
first_clock clocks [] = None
first_clock clocks (p ∷ ports) = cond (is_hidden p.way (clocks p.name)) (Some p.name) (first_clock clocks ports)

abbrev pub root_clock : List ModuleTree → Option (List ℕ)
root_clock modules = clock_name (root_signals modules)

-- and the design, but for the order of its equations
abbrev pub design_of : List ModuleTree → FlatTree
design_of modules = record { root = root_name modules; clock = root_clock modules; ports = first_numbers (port_count modules); signals = all_signals modules; order = [] }

-- the table of a root behind some modules
pub record IsRootTable (tables : List SlotTable) (earlier : List ModuleTree) (m : ModuleTree) (count : ℕ) : Type 0 where
  pub all_tables : AreTables tables earlier
  pub table : IsTable tables (length earlier) no_clock earlier m
  pub counts : count ≡ (laid_of no_clock (inners_in earlier) m).count

-- the clock of a design and its signals
pub record IsRootMade (modules : List ModuleTree) (clock : Option (List ℕ)) (signals : List FlatSignal) : Type 0 where
  pub clock_is : clock ≡ root_clock modules
  pub signals_are : map signal_tree signals ≡ all_signals modules
  pub few : length signals ≤ 65536
