-- What is known of the modules before one, by their names: which ports are clocks, how much an instance adds to a
-- design, and how deep modules stand in it.
use Rattle.std.specs.Prelude.{◌≡◌, ℕ, suc, ◌+◌, sum, Bool, false, if◌then◌else◌, bytes_eq, string_bytes, List, [], ◌∷◌, map, Option, Some, None}
use Rattle.indexmap.specs.IndexMap.{get_by}
use Rattle.lola_tree.specs.declared.module.Way.{Way}
use Rattle.lola_tree.specs.declared.module.Way.TheVariants.{Inward, Outward, Both}
use Rattle.lola_tree.specs.declared.module.Port.{Port}
use Rattle.lola_tree.specs.declared.module.LocalKind.{LocalKind}
use Rattle.lola_tree.specs.declared.module.LocalKind.TheVariants.{Reg, Var, Inst}
use Rattle.lola_tree.specs.declared.module.Local.{Local}
use Rattle.lola_tree.specs.Tree.{ModuleTree}
use Rattle.lola_tree.specs.Names.{Names, names_of}
use Rattle.lola_bits.specs.Names.{is_among}
use Rattle.lola_tree.specs.design.Clocks.{clocks_in, clock_ports}
use Rattle.lola_tree.specs.design.Signals.{elements, height_inside, locals_height}
use Rattle.lola_unfold.specs.declared.known.Outline.{Outline}
use Rattle.lola_unfold.specs.declared.known.Known.{Known}
use Rattle.lola_unfold.specs.Tables.{Among, no_clock}
use Rattle.lola_unfold.specs.Slots.{capped}

-- a clock port of an instance is no signal
abbrev pub is_hidden : Way → Bool → Bool
is_hidden Inward is_clock = is_clock
is_hidden Outward is_clock = false
is_hidden Both is_clock = false

-- how many elements a port adds, and how many a local name does: an instance is counted besides its signals
abbrev pub port_size : Names → Among → Port → ℕ
port_size names clocks p = if is_hidden p.way (clocks p.name) then 0 else elements names p.shape

abbrev pub kind_size : (List ℕ → ℕ) → Names → LocalKind → ℕ
kind_size inside names (Reg under type) = elements names type
kind_size inside names (Var type) = elements names type
kind_size inside names (Inst of) = suc (inside of.name)

abbrev pub size_at : (List ℕ → ℕ) → Names → Among → List Port → List Local → ℕ
size_at inside names clocks ports locals = sum (map (port_size names clocks) ports) + sum (map (λ (l : Local). kind_size inside names l.kind) locals)

-- how much an instance of an earlier module adds besides itself; the nearest stands first
abbrev pub size_inside : List ModuleTree → List ℕ → ℕ
size_inside [] name = 0
size_inside (m ∷ earlier) name =
    if bytes_eq m.name name then size_at (size_inside earlier) (names_of m) (is_among (clocks_in (clock_ports earlier) m)) m.ports m.locals
    else size_inside earlier name

-- the root shows its clock
abbrev pub root_size : List ModuleTree → ℕ
root_size [] = 0
root_size (m ∷ earlier) = size_at (size_inside earlier) (names_of m) no_clock m.ports m.locals

-- what a table has of a name
abbrev pub outline_ports : Option Outline → List Bool
outline_ports None = []
outline_ports (Some o) = o.clocks.items

abbrev pub outline_size : Option Outline → ℕ
outline_size None = 0
outline_size (Some o) = o.size

abbrev pub outline_height : Option Outline → ℕ
outline_height None = 0
outline_height (Some o) = o.height

abbrev pub outline_of : Known → List ℕ → Option Outline
outline_of known name = get_by (λ key. bytes_eq name (string_bytes key)) known.entries

-- a table is that of these modules, of which the nearest stands first
pub record Knows (known : Known) (earlier : List ModuleTree) : Type 0 where
  pub ports : (name : List ℕ) → outline_ports (outline_of known name) ≡ clock_ports earlier name
  pub sizes : (name : List ℕ) → outline_size (outline_of known name) ≡ capped (size_inside earlier name)
  pub heights : (name : List ℕ) → outline_height (outline_of known name) ≡ capped (height_inside earlier name)

-- an outline is that of a module behind some others
pub record IsOutline (o : Outline) (earlier : List ModuleTree) (m : ModuleTree) : Type 0 where
  pub ports : o.clocks.items ≡ map (λ (p : Port). is_among (clocks_in (clock_ports earlier) m) p.name) m.ports
  pub size : o.size ≡ capped (size_at (size_inside earlier) (names_of m) (is_among (clocks_in (clock_ports earlier) m)) m.ports m.locals)
  pub height : o.height ≡ capped (suc (locals_height (height_inside earlier) m.locals))
