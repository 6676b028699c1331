-- The paths of a module's signals as the module sees them, and the slots that they have.
use Rattle.std.specs.Prelude.{◌≡◌, ℕ, ◌+◌, if◌then◌else◌, bytes_eq, string_bytes, List, [], ◌∷◌, ◌++◌, map, flat_map, length, slice_get, Option, Some, None}
use Rattle.indexmap.specs.IndexMap.{get_by}
use Rattle.lola_bits.specs.Names.{is_among}
use Rattle.lola_tree.specs.declared.module.Port.{Port}
use Rattle.lola_tree.specs.declared.module.LocalKind.{LocalKind}
use Rattle.lola_tree.specs.declared.module.LocalKind.TheVariants.{Reg, Var, Inst}
use Rattle.lola_tree.specs.declared.module.Local.{Local}
use Rattle.lola_tree.specs.Tree.{ModuleTree}
use Rattle.lola_tree.specs.Value.{Path}
use Rattle.lola_tree.specs.design.Clocks.{clocks_in, clock_ports}
use Rattle.lola_design.specs.Paths.{path_eq}
use Rattle.lola_unfold.specs.declared.slots.Slots.{Slots as SlotTable}
use Rattle.lola_unfold.specs.declared.layout.Inner.{Inner}
use Rattle.lola_unfold.specs.declared.layout.Inners.{Inners as InnerTable}
use Rattle.lola_unfold.specs.declared.layout.Layout.{Layout}
use Rattle.lola_unfold.specs.Slots.{Slots, no_slots, slots_with, slot_in, capped, table_slot}
use Rattle.lola_unfold.specs.Tables.{Among}
use Rattle.lola_unfold.specs.Measured.{is_hidden}

-- the place of a path among some
abbrev pub shift : ℕ → Option ℕ → Option ℕ
shift n None = None
shift n (Some k) = Some (n + k)

abbrev pub find : List Path → Path → Option ℕ
find [] x = None
find (y ∷ ys) x = if path_eq y x then Some 0 else shift 1 (find ys x)

-- the paths of a module's signals: those of its ports but the hidden ones, and those of its local names, where an
-- instance has those of its module behind its name
abbrev pub port_paths : Among → List Port → List Path
port_paths clocks [] = []
port_paths clocks (p ∷ ports) = (if is_hidden p.way (clocks p.name) then [] else (p.name ∷ []) ∷ []) ++ port_paths clocks ports

abbrev pub kind_paths : (List ℕ → List Path) → List ℕ → LocalKind → List Path
kind_paths inside name (Reg clock type) = (name ∷ []) ∷ []
kind_paths inside name (Var type) = (name ∷ []) ∷ []
kind_paths inside name (Inst of) = map (λ (y : Path). name ∷ y) (inside of.name)

abbrev pub local_paths : (List ℕ → List Path) → List Local → List Path
local_paths inside [] = []
local_paths inside (l ∷ locals) = kind_paths inside l.name l.kind ++ local_paths inside locals

abbrev pub own_paths : Among → (List ℕ → List Path) → ModuleTree → List Path
own_paths clocks inside m = port_paths clocks m.ports ++ local_paths inside m.locals

-- the same of an earlier module by its name; the nearest stands first
abbrev pub paths_inside : List ModuleTree → List ℕ → List Path
paths_inside [] name = []
paths_inside (m ∷ earlier) name = if bytes_eq m.name name then own_paths (is_among (clocks_in (clock_ports earlier) m)) (paths_inside earlier) m else paths_inside earlier name

-- the modules of instances by their names
abbrev pub Inners : Type 0
Inners = List ℕ → Option Inner

abbrev pub inner_in : InnerTable → Inners
inner_in table name = get_by (λ key. bytes_eq name (string_bytes key)) table.entries

-- what has a slot: a name with the number of its module, where it is an instance, and how many signals it has
pub record Item : Type 0 where
  pub name : List ℕ
  pub inside : Option ℕ
  pub count : ℕ

-- the items of a port and of a local name
abbrev pub port_items : Among → Port → List Item
port_items clocks p = if is_hidden p.way (clocks p.name) then [] else record { name = p.name; inside = None; count = 1 } ∷ []

abbrev pub inner_items : List ℕ → Option Inner → List Item
inner_items name None = []
inner_items name (Some i) = record { name = name; inside = Some i.at; count = i.count } ∷ []

abbrev pub kind_items : Inners → List ℕ → LocalKind → List Item
kind_items inners name (Reg clock type) = record { name = name; inside = None; count = 1 } ∷ []
kind_items inners name (Var type) = record { name = name; inside = None; count = 1 } ∷ []
kind_items inners name (Inst of) = inner_items name (inners of.name)

abbrev pub local_items : Inners → Local → List Item
local_items inners l = kind_items inners l.name l.kind

abbrev pub items_of : Among → Inners → ModuleTree → List Item
items_of clocks inners m = flat_map (port_items clocks) m.ports ++ flat_map (local_items inners) m.locals

-- slots, and how many signals they are for
pub record Laid : Type 0 where
  pub slots : Slots
  pub count : ℕ

abbrev pub no_laid : Laid
no_laid = record { slots = no_slots; count = 0 }

abbrev pub laid_in : Layout → Laid
laid_in layout = record { slots = slot_in layout.slots; count = layout.count }

-- one item behind another
abbrev pub lay_one : Laid → Item → Laid
lay_one l i = record { slots = slots_with l.slots i.name (record { offset = l.count; inside = i.inside }); count = capped (l.count + i.count) }

abbrev pub lay : Laid → List Item → Laid
lay l [] = l
lay l (i ∷ is) = lay (lay_one l i) is

abbrev pub laid_of : Among → Inners → ModuleTree → Laid
laid_of clocks inners m = lay no_laid (items_of clocks inners m)

-- the modules before one, by their names: each has the number of those before it
abbrev pub inners_in : List ModuleTree → Inners
inners_in [] name = None
inners_in (m ∷ earlier) name =
    if bytes_eq m.name name then Some (record { at = length earlier; count = (laid_of (is_among (clocks_in (clock_ports earlier) m)) (inners_in earlier) m).count })
    else inners_in earlier name

-- a module has its slots at its number
abbrev pub IsTable : List SlotTable → ℕ → Among → List ModuleTree → ModuleTree → Type 0
IsTable tables at clocks earlier m = (name : List ℕ) → table_slot (slice_get tables at) name ≡ (laid_of clocks (inners_in earlier) m).slots name

-- and so have all
abbrev pub AreTables : List SlotTable → List ModuleTree → Type 0
AreTables tables [] = Unit {0}
AreTables tables (m ∷ earlier) = IsTable tables (length earlier) (is_among (clocks_in (clock_ports earlier) m)) earlier m × AreTables tables earlier
