-- The modules of a design at their paths: the root at the empty path, and each instance at the path of the
-- module that declares it, followed by its name.
use Rattle.std.specs.Prelude.{ℕ, Bool, if◌then◌else◌, bytes_eq, List, [], ◌∷◌, ◌++◌, reverse, Option, Some, None}
use Rattle.lola_tree.specs.declared.module.Way.{Way}
use Rattle.lola_tree.specs.declared.module.Way.TheVariants.{Inward, Outward, Both}
use Rattle.lola_tree.specs.declared.module.Port.{Port}
use Rattle.lola_tree.specs.declared.module.LocalKind.{LocalKind}
use Rattle.lola_tree.specs.declared.module.LocalKind.TheVariants.{Reg, Var, Inst}
use Rattle.lola_tree.specs.declared.module.Local.{Local}
use Rattle.lola_tree.specs.Tree.{ActualTree, ModuleTree, SourceTree}
use Rattle.lola_tree.specs.Value.{Path}
use Rattle.lola_tree.specs.design.Calls.{args_of, bare_name}
use Rattle.lola_tree.specs.design.Clocks.{clocks_in, clock_ports}

-- which pad of the root each INOUT port of a module stands for, by the name of the port
abbrev pub Pads : Type 0
Pads = List (List ℕ × Path)

abbrev pub pad_of : Pads → List ℕ → Path
pad_of [] name = []
pad_of (p ∷ pads) name = if bytes_eq p.0 name then p.1 else pad_of pads name

-- how an instance is entered: the arguments of its call, over the names of the module that calls it, which
-- stands at this path and whose INOUT ports stand for these pads
pub record Caller : Type 0 where
  pub module_ : ModuleTree
  pub path : Path
  pub pads : Pads
  pub args : List ActualTree

-- a module at a path; the root has no caller
pub record Place : Type 0 where
  pub module_ : ModuleTree
  pub path : Path
  pub clocks : List (List ℕ)
  pub pads : Pads
  pub caller : Option Caller

-- an INOUT port stands for a pad
abbrev pub way_pad : Way → List ℕ → Path → Pads
way_pad Inward name pad = []
way_pad Outward name pad = []
way_pad Both name pad = (name, pad) ∷ []

-- the INOUT ports of the root are pads
abbrev pub own_pads : List Port → Pads
own_pads [] = []
own_pads (p ∷ ports) = way_pad p.way p.name (p.name ∷ []) ++ own_pads ports

-- those of an instance stand for what their arguments stand for
abbrev pub passed_pads : Pads → List Port → List ActualTree → Pads
passed_pads pads [] args = []
passed_pads pads (p ∷ ports) [] = []
passed_pads pads (p ∷ ports) (a ∷ args) = way_pad p.way p.name (pad_of pads (bare_name a.value)) ++ passed_pads pads ports args

-- the places of an earlier module, by its name, its path and its caller
abbrev pub Inside : Type 0
Inside = List ℕ → Path → Caller → List Place

-- the places behind a local name: those of an instance
abbrev pub kind_places : Inside → ModuleTree → Path → Pads → List ℕ → LocalKind → List Place
kind_places inside m p pads name (Reg clock type) = []
kind_places inside m p pads name (Var type) = []
kind_places inside m p pads name (Inst of) = inside of.name (p ++ name ∷ []) (record { module_ = m; path = p; pads = pads; args = args_of m.body name })

abbrev pub local_places : Inside → ModuleTree → Path → Pads → List Local → List Place
local_places inside m p pads [] = []
local_places inside m p pads (l ∷ locals) = kind_places inside m p pads l.name l.kind ++ local_places inside m p pads locals

-- a module at a path, and then its instances in text order, each followed by its own
abbrev pub places_at : (List ℕ → List Bool) → Inside → ModuleTree → Path → Option Caller → Pads → List Place
places_at ports inside m p caller pads =
    record { module_ = m; path = p; clocks = clocks_in ports m; pads = pads; caller = caller } ∷ local_places inside m p pads m.locals

-- the modules stand in reverse order, the nearest first
abbrev pub places_inside : List ModuleTree → Inside
places_inside [] name p caller = []
places_inside (m ∷ earlier) name p caller =
    if bytes_eq m.name name then places_at (clock_ports earlier) (places_inside earlier) m p (Some caller) (passed_pads caller.pads m.ports caller.args)
    else places_inside earlier name p caller

abbrev pub root_places : List ModuleTree → List Place
root_places [] = []
root_places (m ∷ earlier) = places_at (clock_ports earlier) (places_inside earlier) m [] None (own_pads m.ports)

-- all modules of a design at their paths; the last module of the text is the root
abbrev pub places : SourceTree → List Place
places S = root_places (reverse S.modules)
