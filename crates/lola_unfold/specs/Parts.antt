-- What is known of the modules of a source before its instances are walked, and where an instance stands.
use Rattle.std.specs.Prelude.{◌≡◌, ℕ, List, [], ◌∷◌, ◌++◌, map, length, slice_get, Option, Some, None}
use Rattle.std.specs.Borrow.{Bor}
use Rattle.lola_bits.specs.Names.{is_among}
use Rattle.lola_tree.specs.Tree.{ModuleTree, module_tree}
use Rattle.lola_tree.specs.Names.{names_of}
use Rattle.lola_tree.specs.Signals.{register_names}
use Rattle.lola_tree.specs.Value.{Path}
use Rattle.lola_tree.specs.design.Calls.{args_of}
use Rattle.lola_tree.specs.design.Clocks.{clocks_in, clock_ports}
use Rattle.lola_tree.specs.declared.module.Local.{Local}
use Rattle.lola_tree.specs.design.Places.{Place, places_inside, kind_places, local_places}
use Rattle.lola_tree.specs.design.Signals.{Signal, instance_ports, kind_signals, local_signals, signals_inside}
use Rattle.lola_design.specs.Once.{AllOnce}
use Rattle.lola_width.specs.Table.{found}
use Rattle.lola_unfold.specs.declared.part.Part.{Part}
use Rattle.lola_unfold.specs.declared.survey.Survey.{Survey}
use Rattle.lola_unfold.specs.declared.site.Site.{Site}
use Rattle.lola_unfold.specs.Slots.{number_from}
use Rattle.lola_unfold.specs.Translated.{Numbers}
use Rattle.lola_unfold.specs.Tables.{Among, calls_in, args_or_none, clocks_found, pad_number}
use Rattle.lola_unfold.specs.Measured.{Knows}
use Rattle.lola_unfold.specs.Offsets.{inner_in, inners_in, IsTable, AreTables}
use Rattle.lola_unfold.specs.Pieces.{View, view_at, Piece, piece}

-- what is known of a module behind some others
pub record IsPart (part : Part) (earlier : List ModuleTree) (m : ModuleTree) : Type 0 where
  pub is : module_tree part.declared.now ≡ m
  pub names : found part.names ≡ names_of m
  pub calls : (name : List ℕ) → args_or_none (calls_in part.calls name) ≡ args_of m.body name
  pub clocks : clocks_found part.clocks ≡ is_among (clocks_in (clock_ports earlier) m)
  pub registers : clocks_found part.registers ≡ is_among (register_names m.locals)

abbrev pub IsPartAt : Option Part → List ModuleTree → ModuleTree → Type 0
IsPartAt None earlier m = ⊥
IsPartAt (Some part) earlier m = IsPart part earlier m

-- and of all; each stands at the number of those before it
abbrev pub AreParts : List Part → List ModuleTree → Type 0
AreParts parts [] = Unit {0}
AreParts parts (m ∷ earlier) = IsPartAt (slice_get parts (length earlier)) earlier m × AreParts parts earlier

-- the tables of some modules are those of their names
pub record AreLaid (s : Survey) (earlier : List ModuleTree) : Type 0 where
  pub inners : inner_in s.inners ≡ inners_in earlier
  pub tables : AreTables s.tables.items earlier
  pub table_count : length s.tables.items ≡ length earlier

-- what is known of them all
pub record IsSurvey (s : Survey) (earlier : List ModuleTree) : Type 0 where
  pub knows : Knows s.known earlier
  pub parts : AreParts s.parts.items earlier
  pub part_count : length s.parts.items ≡ length earlier
  pub laid : AreLaid s earlier

-- the names of a path as the walk holds them
abbrev pub path_in : List (Bor (List ℕ)) → Path
path_in names = map (λ (n : Bor (List ℕ)). n.now) names

-- what is known at a place
abbrev pub view_in : Part → Site → View
view_in part site = record {
  names = found part.names;
  registers = clocks_found part.registers;
  clocks = clocks_found part.clocks;
  here = number_from site.base;
  pads = pad_number site.pads;
  path = path_in site.path.items;
}

-- a place of a design whose signals have these numbers, of a module behind some others
pub record Stands (N : Numbers) (parts : List Part) (site : Site) (part : Part) (earlier : List ModuleTree) (a : Place) : Type 0 where
  pub at : site.base.at ≡ length earlier
  pub all_parts : AreParts parts earlier
  pub is_part : IsPart part earlier a.module_
  pub all_tables : AreTables site.base.tables.now earlier
  pub clocks : Among
  pub table : IsTable site.base.tables.now (length earlier) clocks earlier a.module_
  pub once : AllOnce (a.module_ ∷ earlier)
  pub view : view_in part site ≡ view_at N a
  pub none : site.pads.none ≡ N []

-- an instance of a place, under a name of its module
abbrev pub IsCalled : Place → List ℕ → Place → Type 0
IsCalled a name b = b.caller ≡ Some (record { module_ = a.module_; path = a.path; pads = a.pads; args = args_of a.module_.body name })

-- the signals of an instance at its place, and the places from there on
abbrev pub entered_signals : List ModuleTree → Place → List Signal
entered_signals earlier b =
    instance_ports (names_of b.module_) b.clocks b.path b.module_.ports ++ local_signals (signals_inside earlier) (names_of b.module_) b.path b.module_.locals

abbrev pub entered_places : List ModuleTree → Place → List Place
entered_places earlier b = b ∷ local_places (places_inside earlier) b.module_ b.path b.pads b.module_.locals

-- what a local name of a place adds, and what several do
abbrev pub local_piece : Numbers → List ModuleTree → Place → Local → Piece
local_piece N earlier a l =
    piece N (kind_signals (signals_inside earlier) (names_of a.module_) (a.path ++ l.name ∷ []) l.kind) (kind_places (places_inside earlier) a.module_ a.path a.pads l.name l.kind)

abbrev pub locals_piece : Numbers → List ModuleTree → Place → List Local → Piece
locals_piece N earlier a locals =
    piece N (local_signals (signals_inside earlier) (names_of a.module_) a.path locals) (local_places (places_inside earlier) a.module_ a.path a.pads locals)
