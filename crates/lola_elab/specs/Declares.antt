-- What a module declares, without its statements.
use Rattle.std.specs.Prelude.{◌≡◌, ℕ, ◌+◌, ◌≤◌, not, ◌&&◌, List, [], ◌∷◌, ◌++◌, length, map, filter, Option, Some, None, string_bytes}
use Rattle.std.specs.Borrow.{Bor}
use Rattle.std.specs.List.{AllByRecursion}
use Rattle.lola_bits.specs.Lists.{IsIn, AreDistinct}
use Rattle.lola_bits.specs.Names.{is_among}
use Rattle.lola_tree.specs.declared.named.Shape.{Shape}
use Rattle.lola_tree.specs.declared.named.Shape.TheVariants as shape
use Rattle.lola_tree.specs.declared.module.Way.TheVariants.{Inward}
use Rattle.lola_tree.specs.declared.module.Port.{Port}
use Rattle.lola_tree.specs.declared.module.Const.{Const}
use Rattle.lola_tree.specs.declared.module.Local.{Local}
use Rattle.lola_tree.specs.Tree.{ModuleTree}
use Rattle.lola_tree.specs.Names.{kind_shape}
use Rattle.lola_tree.specs.Width.{checked_width, written_width}
use Rattle.lola_tree.specs.Value.{or_zero}
use Rattle.lola_tree.specs.Signals.{clock_of, is_inward, is_outward}
use Rattle.lola_elab.specs.declared.meaning.Meaning.{Meaning}
use Rattle.lola_elab.specs.declared.meaning.Meaning.TheVariants as meaning
use Rattle.lola_elab.specs.declared.vector.Vector.{Vector}
use Rattle.lola_elab.specs.Meanings.{Meanings, count_of}
use Rattle.lola_elab.specs.Small.{Wide, IsSmallPort, IsSmallKind, IsSmallConst}

-- the names of ports, constants and locals, in text order
abbrev pub port_names : List Port → List (List ℕ)
port_names ports = map (λ (p : Port). p.name) ports

abbrev pub const_names : List Const → List (List ℕ)
const_names consts = map (λ (c : Const). c.name) consts

abbrev pub local_names : List Local → List (List ℕ)
local_names locals = map (λ (l : Local). l.name) locals

-- the names that are shown: one or none
abbrev pub names_in : Option (Bor (List ℕ)) → List (List ℕ)
names_in None = []
names_in (Some name) = name.now ∷ []

-- the clock of the first register, or none
abbrev pub first_clock : List Local → List (List ℕ)
first_clock [] = []
first_clock (local ∷ locals) = clock_of local.kind

-- the widths of types whose counts are numbers or constants
abbrev pub wide_of : Meanings → Wide
wide_of names (shape.Vector width) = checked_width (count_of names width)
wide_of names (shape.Array count width) = None

-- a vector register under a clock
abbrev pub IsUnder : Wide → List (List ℕ) → Local → Type 0
IsUnder wide clock local = IsSmallKind wide local.kind × (clock_of local.kind ≡ clock)

-- an IN port of one bit of this name
abbrev pub IsInwardNamed : Wide → List ℕ → Port → Type 0
IsInwardNamed wide name p = (p.way ≡ Inward) × (name ≡ p.name) × (wide p.shape ≡ Some 1)

-- an IN port of one bit has this name
abbrev pub IsInward : Wide → List Port → List ℕ → Type 0
IsInward wide ports name = (p : Port) × IsIn p ports × IsInwardNamed wide name p

-- a name and a width
abbrev pub Sized : Type 0
Sized = List ℕ × ℕ

abbrev pub sized : Vector → Sized
sized v = (string_bytes v.name, v.width)

abbrev pub sized_port : Wide → Port → Sized
sized_port wide p = (p.name, or_zero (wide p.shape))

-- the width of a register
abbrev pub kind_width : Wide → Option Shape → ℕ
kind_width wide None = 0
kind_width wide (Some type) = or_zero (wide type)

abbrev pub sized_local : Wide → Local → Sized
sized_local wide l = (l.name, kind_width wide (kind_shape l.kind))

-- the IN ports but the clock, in text order
abbrev pub inputs_under : Wide → List (List ℕ) → List Port → List Sized
inputs_under wide clock ports = map (sized_port wide) (filter (λ (p : Port). is_inward p.way && not (is_among clock p.name)) ports)

-- the OUT ports
abbrev pub outputs : Wide → List Port → List Sized
outputs wide ports = map (sized_port wide) (filter (λ (p : Port). is_outward p.way) ports)

-- what constants stand for
abbrev pub const_entry : Const → List ℕ × Meaning
const_entry c = (c.name, meaning.Constant (written_width c.width) c.value)

-- a module of distinct vector ports and registers, all under this clock, which is an IN port of one bit
pub record IsDeclaredUnder (wide : Wide) (clock : List (List ℕ)) (m : ModuleTree) : Type 0 where
  pub ends : m.ends.name ≡ m.name
  pub distinct : AreDistinct (port_names m.ports ++ (const_names m.consts ++ local_names m.locals))
  pub constants : AllByRecursion IsSmallConst m.consts
  pub ports : AllByRecursion (IsSmallPort wide) m.ports
  pub registers : AllByRecursion (IsUnder wide clock) m.locals
  pub clock_port : AllByRecursion (IsInward wide m.ports) clock
  pub few_signals : length m.ports + length m.locals ≤ 65536
