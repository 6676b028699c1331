-- What a module shows to those behind it: its ports in order, of which one may be its clock.
use Rattle.std.specs.Prelude.{ℕ, Bool, false, cond, nat_eq, ◌&&◌, bytes_eq, List, [], ◌∷◌, Option, Some, None}
use Rattle.lola_tree.specs.declared.named.Ref.{Ref}
use Rattle.lola_tree.specs.declared.named.Shape.{Shape}
use Rattle.lola_tree.specs.declared.named.Shape.TheVariants as shape
use Rattle.lola_tree.specs.declared.module.Port.{Port}
use Rattle.lola_tree.specs.declared.module.LocalKind.{LocalKind}
use Rattle.lola_tree.specs.declared.module.LocalKind.TheVariants.{Reg, Var, Inst}
use Rattle.lola_tree.specs.declared.module.Local.{Local}
use Rattle.lola_tree.specs.Tree.{Tree, whole, ActualTree, StmtTree, assignment, call, pad, ModuleTree}
use Rattle.lola_tree.specs.Names.{Entry, port, constant, local, Names, count_number, ref_name}
use Rattle.lola_tree.specs.Signals.{is_inward}
use Rattle.lola_tree.specs.Width.{vector_width}
use Rattle.lola_width.specs.declared.interface.Pin.{Pin}

-- the ports of the earlier module of a name
abbrev pub Seen : Type 0
Seen = List ℕ → Option (List Pin)

abbrev pub no_module : Seen
no_module name = None

-- the first that is there
abbrev pub or_first : {X : Type 0} → Option X → Option X → Option X
or_first None other = other
or_first (Some x) other = Some x

-- the ports of what a local name is an instance of
abbrev pub kind_pins : Seen → LocalKind → Option (List Pin)
kind_pins seen (Reg clock type) = None
kind_pins seen (Var type) = None
kind_pins seen (Inst of) = seen of.name

abbrev pub instance_pins : Seen → Option Entry → Option (List Pin)
instance_pins seen None = None
instance_pins seen (Some (port p)) = None
instance_pins seen (Some (constant c)) = None
instance_pins seen (Some (local l)) = kind_pins seen l.kind

abbrev pub listed : Option (List Pin) → List Pin
listed None = []
listed (Some pins) = pins

-- the port of an argument, and those of the arguments behind it
abbrev pub first_pin : List Pin → Option Pin
first_pin [] = None
first_pin (pin ∷ pins) = Some pin

abbrev pub later_pins : List Pin → List Pin
later_pins [] = []
later_pins (pin ∷ pins) = pins

-- one bit, however it is written
abbrev pub is_one : Option ℕ → Bool
is_one None = false
is_one (Some n) = nat_eq n 1

abbrev pub is_bit : Names → Shape → Bool
is_bit names (shape.Vector width) = is_one (count_number names width)
is_bit names (shape.Array count width) = false

-- an IN port of one bit
abbrev pub is_clock_port : Names → Option Entry → Bool
is_clock_port names None = false
is_clock_port names (Some (port p)) = is_inward p.way && is_bit names p.shape
is_clock_port names (Some (constant c)) = false
is_clock_port names (Some (local l)) = false

-- a name that may be a clock, where it is used as one
abbrev pub clock_named : Names → List ℕ → Option (List ℕ)
clock_named names name = cond (is_clock_port names (names name)) (Some name) None

abbrev pub kind_clock : Names → LocalKind → Option (List ℕ)
kind_clock names (Reg clock type) = clock_named names clock.name
kind_clock names (Var type) = None
kind_clock names (Inst of) = None

abbrev pub locals_clock : Names → List Local → Option (List ℕ)
locals_clock names [] = None
locals_clock names (l ∷ locals) = or_first (kind_clock names l.kind) (locals_clock names locals)

-- an expression that is a bare name
abbrev pub bare_name : Tree → Option Ref
bare_name (whole of) = Some of
bare_name other = None

-- the argument of a clock port is a clock where it is a bare name
abbrev pub bare_clock : Names → Option Ref → Option (List ℕ)
bare_clock names None = None
bare_clock names (Some of) = clock_named names (ref_name of)

abbrev pub arg_clock : Names → Option Pin → Tree → Option (List ℕ)
arg_clock names None e = None
arg_clock names (Some pin) e = cond pin.clock (bare_clock names (bare_name e)) None

abbrev pub args_clock : Names → List ActualTree → List Pin → Option (List ℕ)
args_clock names [] pins = None
args_clock names (a ∷ args) pins = or_first (arg_clock names (first_pin pins) a.value) (args_clock names args (later_pins pins))

abbrev pub stmt_clock : Names → Seen → StmtTree → Option (List ℕ)
stmt_clock names seen (assignment name place value at equals) = None
stmt_clock names seen (call name args at) = args_clock names args (listed (instance_pins seen (names name)))
stmt_clock names seen (pad io inner value release at) = None

abbrev pub body_clock : Names → Seen → List StmtTree → Option (List ℕ)
body_clock names seen [] = None
body_clock names seen (t ∷ body) = or_first (stmt_clock names seen t) (body_clock names seen body)

-- the clock of a module: the first name that may be one and is used as one
abbrev pub module_clock : Names → Seen → ModuleTree → Option (List ℕ)
module_clock names seen m = or_first (locals_clock names m.locals) (body_clock names seen m.body)

-- a name is the clock
abbrev pub is_clock : Option (List ℕ) → List ℕ → Bool
is_clock None name = false
is_clock (Some clock) name = bytes_eq clock name

-- the ports of a module as those behind it see them
abbrev pub pin_of : Names → Option (List ℕ) → Port → Pin
pin_of names clock p = record { way = p.way; width = vector_width names (Some p.shape); clock = is_clock clock p.name }

abbrev pub pins_of : Names → Option (List ℕ) → List Port → List Pin
pins_of names clock [] = []
pins_of names clock (p ∷ ports) = pin_of names clock p ∷ pins_of names clock ports

-- the earlier modules with one more; of two under one name the first counts
abbrev pub seen_with : Seen → List ℕ → List Pin → Seen
seen_with seen name pins other = or_first (seen other) (cond (bytes_eq name other) (Some pins) None)
