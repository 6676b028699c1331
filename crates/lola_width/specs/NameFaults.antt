-- The faults of names: what is declared twice or not at all, and what is used as what it isn't.
use Rattle.std.specs.Prelude.{ℕ, Bool, true, false, not, cond, ◌&&◌, nat_lt, bytes_eq, List, [], ◌∷◌, ◌++◌, Option, Some, None}
use Rattle.lola_tree.specs.declared.named.Named.{Named}
use Rattle.lola_tree.specs.declared.named.Count.{Count}
use Rattle.lola_tree.specs.declared.named.Count.TheVariants as count
use Rattle.lola_tree.specs.declared.named.Ref.{Ref}
use Rattle.lola_tree.specs.declared.named.Shape.{Shape}
use Rattle.lola_tree.specs.declared.named.Shape.TheVariants as shape
use Rattle.lola_tree.specs.declared.module.Way.{Way}
use Rattle.lola_tree.specs.declared.module.Way.TheVariants.{Inward, Outward, Both}
use Rattle.lola_tree.specs.declared.module.Port.{Port}
use Rattle.lola_tree.specs.declared.module.LocalKind.{LocalKind}
use Rattle.lola_tree.specs.declared.module.LocalKind.TheVariants.{Reg, Var, Inst}
use Rattle.lola_tree.specs.declared.module.Local.{Local}
use Rattle.lola_tree.specs.Tree.{Tree, number, whole, bit, slice, index, concat, negation, binary, choice, Parts, no_part, one_part, ActualTree, StmtTree, assignment, call, pad, ModuleTree}
use Rattle.lola_tree.specs.Names.{Entry, port, constant, local, entry_name, entry_at, entry_shape, kind_shape, entries, earlier, Names, count_number, ref_name}
use Rattle.lola_tree.specs.Signals.{is_outward}
use Rattle.lola_tree.specs.Width.{checked_place}
use Rattle.lola_width.specs.declared.fault.SourceFault.{SourceFault}
use Rattle.lola_width.specs.declared.fault.SourceFault.TheVariants.{Doubled, Unknown, Kind, ArrayShape, Clock}
use Rattle.lola_width.specs.declared.uses.Use.{Use}
use Rattle.lola_width.specs.declared.uses.Use.TheVariants as use_
use Rattle.lola_width.specs.declared.interface.Pin.{Pin}
use Rattle.lola_width.specs.Interface.{Seen, bare_name, instance_pins, listed, first_pin, later_pins, is_clock}

abbrev pub no_names : Names
no_names name = None

-- a declaration stands before another of its name, if there is one
abbrev pub comes_first : Entry → Option Entry → Bool
comes_first e None = true
comes_first e (Some f) = nat_lt (entry_at e) (entry_at f)

-- names with one more declaration; of two under one name the earlier counts
abbrev pub names_with : Names → List ℕ → Entry → Names
names_with names name e other = earlier (names other) (cond (bytes_eq name other) (Some e) None)

abbrev pub names_with_all : Names → List Entry → Names
names_with_all names [] = names
names_with_all names (e ∷ more) = names_with_all (names_with names (entry_name e) e) more

-- the later of two declarations of a name
abbrev pub doubled : Option Entry → ℕ → List ℕ → List SourceFault
doubled None at name = []
doubled (Some e) at name = Doubled (cond (nat_lt at (entry_at e)) (entry_at e) at) name ∷ []

abbrev pub doubled_faults : Names → List Entry → List SourceFault
doubled_faults names [] = []
doubled_faults names (e ∷ more) =
    doubled (names (entry_name e)) (entry_at e) (entry_name e) ++ doubled_faults (names_with names (entry_name e) e) more

abbrev pub is_array : Option Shape → Bool
is_array None = false
is_array (Some (shape.Vector width)) = false
is_array (Some (shape.Array count width)) = true

abbrev pub is_vector : Option Shape → Bool
is_vector None = false
is_vector (Some (shape.Vector width)) = true
is_vector (Some (shape.Array count width)) = false

abbrev pub is_both : Way → Bool
is_both Inward = false
is_both Outward = false
is_both Both = true

abbrev pub is_pad : Entry → Bool
is_pad (port p) = is_both p.way
is_pad (constant c) = false
is_pad (local l) = false

-- a value in an expression: a constant, or a vector that is no pad
abbrev pub is_readable : Entry → Bool
is_readable (port p) = not (is_both p.way) && is_vector (Some p.shape)
is_readable (constant c) = true
is_readable (local l) = is_vector (kind_shape l.kind)

-- what an assignment sets: an OUT port, a register or a variable
abbrev pub assigned_shape : Entry → Option Shape
assigned_shape (port p) = cond (is_outward p.way) (Some p.shape) None
assigned_shape (constant c) = None
assigned_shape (local l) = kind_shape l.kind

-- what takes the value of an OUT port or of a pad: an OUT port or a variable
abbrev pub is_variable : LocalKind → Bool
is_variable (Reg clock type) = false
is_variable (Var type) = true
is_variable (Inst of) = false

abbrev pub is_receiver : Entry → Bool
is_receiver (port p) = is_outward p.way
is_receiver (constant c) = false
is_receiver (local l) = is_variable l.kind

abbrev pub is_instance_kind : LocalKind → Bool
is_instance_kind (Reg clock type) = false
is_instance_kind (Var type) = false
is_instance_kind (Inst of) = true

abbrev pub is_instance : Entry → Bool
is_instance (port p) = false
is_instance (constant c) = false
is_instance (local l) = is_instance_kind l.kind

abbrev pub is_constant : Entry → Bool
is_constant (port p) = false
is_constant (constant c) = true
is_constant (local l) = false

-- a declaration suits a use
abbrev pub suits : Use → Entry → Bool
suits use_.Count e = is_constant e
suits use_.Value e = is_readable e
suits use_.Indexed e = is_array (entry_shape e)
suits use_.Assigned e = is_vector (assigned_shape e)
suits use_.ElementAssigned e = is_array (assigned_shape e)
suits use_.Called e = is_instance e
suits use_.Receiver e = is_receiver e
suits use_.Pad e = is_pad e

-- a name that isn't declared, or is used as what it isn't
abbrev pub use_faults : Use → ℕ → List ℕ → Option Entry → List SourceFault
use_faults used at name None = Unknown at name ∷ []
use_faults used at name (Some e) = cond (suits used e) [] (Kind at ∷ [])

-- a name that must be a constant
abbrev pub count_faults : Names → Count → List SourceFault
count_faults names (count.Fixed value at) = []
count_faults names (count.Const name) = use_faults use_.Count name.at name.name (names name.name)

-- the clock where a value is read
abbrev pub clock_read : Option (List ℕ) → ℕ → List ℕ → List SourceFault
clock_read clock at name = cond (is_clock clock name) (Clock at ∷ []) []

abbrev pub value_faults : Names → Option (List ℕ) → Ref → List SourceFault
value_faults names clock r = use_faults use_.Value r.at (ref_name r) (names (ref_name r)) ++ clock_read clock r.at (ref_name r)

-- the faults of an expression
abbrev mutual
  pub expr_faults : Names → Option (List ℕ) → Tree → List SourceFault
  expr_faults names clock (number value written at) = []
  expr_faults names clock (whole of) = value_faults names clock of
  expr_faults names clock (bit of place at) = value_faults names clock of ++ count_faults names place
  expr_faults names clock (slice of high low at) = value_faults names clock of ++ (count_faults names high ++ count_faults names low)
  expr_faults names clock (index of place at) =
      use_faults use_.Indexed of.at (ref_name of) (names (ref_name of)) ++ expr_faults names clock place
  expr_faults names clock (concat parts at) = part_faults names clock parts
  expr_faults names clock (negation arg at) = expr_faults names clock arg
  expr_faults names clock (binary op left right at) = expr_faults names clock left ++ expr_faults names clock right
  expr_faults names clock (choice test first second at) =
      expr_faults names clock test ++ (expr_faults names clock first ++ expr_faults names clock second)

  pub part_faults : Names → Option (List ℕ) → Parts → List SourceFault
  part_faults names clock no_part = []
  part_faults names clock (one_part value times behind) =
      expr_faults names clock value ++ (count_faults names times ++ part_faults names clock behind)

-- the counts of a type
abbrev pub shape_faults : Names → Shape → List SourceFault
shape_faults names (shape.Vector width) = count_faults names width
shape_faults names (shape.Array count width) = count_faults names count ++ count_faults names width

-- a number of elements that an array may have, as far as it is known
abbrev pub may_count : Option ℕ → Option ℕ → Bool
may_count None place = true
may_count (Some n) None = false
may_count (Some n) (Some k) = true

-- an array that isn't a register, or whose number of elements is no power of two from 2 to 1,024
abbrev pub array_faults : Names → Bool → ℕ → List ℕ → Shape → List SourceFault
array_faults names is_register at name (shape.Vector width) = []
array_faults names is_register at name (shape.Array count width) =
    cond (is_register && may_count (count_number names count) (checked_place (count_number names count))) [] (ArrayShape at name ∷ [])

abbrev pub type_faults : Names → Bool → ℕ → List ℕ → Shape → List SourceFault
type_faults names is_register at name type = shape_faults names type ++ array_faults names is_register at name type

abbrev pub port_faults : Names → List Port → List SourceFault
port_faults names [] = []
port_faults names (p ∷ ports) = type_faults names false p.at p.name p.shape ++ port_faults names ports

-- another name than the clock where it should stand
abbrev pub other_clock : Option (List ℕ) → ℕ → List ℕ → List SourceFault
other_clock clock at name = cond (is_clock clock name) [] (Clock at ∷ [])

-- what stands where the clock should
abbrev pub no_clock : Names → Option (List ℕ) → ℕ → List ℕ → Option Entry → List SourceFault
no_clock names clock at name None = Unknown at name ∷ []
no_clock names clock at name (Some e) = other_clock clock at name

-- a module that isn't an earlier one
abbrev pub module_faults : Named → Option (List Pin) → List SourceFault
module_faults of None = Unknown of.at of.name ∷ []
module_faults of (Some pins) = []

abbrev pub kind_faults : Names → Seen → Option (List ℕ) → ℕ → List ℕ → LocalKind → List SourceFault
kind_faults names seen clock at name (Reg under type) =
    no_clock names clock under.at under.name (names under.name) ++ type_faults names true at name type
kind_faults names seen clock at name (Var type) = type_faults names false at name type
kind_faults names seen clock at name (Inst of) = module_faults of (seen of.name)

abbrev pub local_faults : Names → Seen → Option (List ℕ) → List Local → List SourceFault
local_faults names seen clock [] = []
local_faults names seen clock (l ∷ locals) = kind_faults names seen clock l.at l.name l.kind ++ local_faults names seen clock locals

-- the argument of an OUT or INOUT port: a bare name
abbrev pub bare_faults : Names → Option (List ℕ) → Use → ActualTree → Option Ref → List SourceFault
bare_faults names clock used a None = expr_faults names clock a.value ++ Kind a.at ∷ []
bare_faults names clock used a (Some of) = use_faults used of.at (ref_name of) (names (ref_name of))

-- the argument of a clock port: the clock, as a bare name
abbrev pub clock_faults : Names → Option (List ℕ) → ActualTree → Option Ref → List SourceFault
clock_faults names clock a None = expr_faults names clock a.value ++ Clock a.at ∷ []
clock_faults names clock a (Some of) =
    use_faults use_.Value of.at (ref_name of) (names (ref_name of)) ++ other_clock clock of.at (ref_name of)

abbrev pub way_faults : Names → Option (List ℕ) → Way → ActualTree → List SourceFault
way_faults names clock Inward a = expr_faults names clock a.value
way_faults names clock Outward a = bare_faults names clock use_.Receiver a (bare_name a.value)
way_faults names clock Both a = bare_faults names clock use_.Pad a (bare_name a.value)

-- an argument, by the port that it is for, if there is one
abbrev pub arg_faults : Names → Option (List ℕ) → Option Pin → ActualTree → List SourceFault
arg_faults names clock None a = expr_faults names clock a.value
arg_faults names clock (Some pin) a = cond pin.clock (clock_faults names clock a (bare_name a.value)) (way_faults names clock pin.way a)

abbrev pub args_faults : Names → Option (List ℕ) → List ActualTree → List Pin → List SourceFault
args_faults names clock [] pins = []
args_faults names clock (a ∷ args) pins = arg_faults names clock (first_pin pins) a ++ args_faults names clock args (later_pins pins)

abbrev pub stmt_faults : Names → Seen → Option (List ℕ) → StmtTree → List SourceFault
stmt_faults names seen clock (assignment name None value at equals) =
    use_faults use_.Assigned at name (names name) ++ expr_faults names clock value
stmt_faults names seen clock (assignment name (Some place) value at equals) =
    use_faults use_.ElementAssigned at name (names name) ++ (expr_faults names clock place.value ++ expr_faults names clock value)
stmt_faults names seen clock (call name args at) =
    use_faults use_.Called at name (names name) ++ args_faults names clock args (listed (instance_pins seen (names name)))
stmt_faults names seen clock (pad io inner value release at) =
    use_faults use_.Pad io.at io.name (names io.name)
    ++ (use_faults use_.Receiver inner.at inner.name (names inner.name)
    ++ (expr_faults names clock value.value ++ expr_faults names clock release.value))

abbrev pub body_faults : Names → Seen → Option (List ℕ) → List StmtTree → List SourceFault
body_faults names seen clock [] = []
body_faults names seen clock (t ∷ body) = stmt_faults names seen clock t ++ body_faults names seen clock body

-- a module's name that an earlier one has
abbrev pub title_faults : Option (List Pin) → ModuleTree → List SourceFault
title_faults None m = []
title_faults (Some pins) m = Doubled m.at m.name ∷ []

-- another name behind END
abbrev pub end_faults : ModuleTree → List SourceFault
end_faults m = cond (bytes_eq m.ends.name m.name) [] (Kind m.ends.at ∷ [])

-- what is used as what it isn't in a module, whose names and clock these are
abbrev pub used_faults : Names → Seen → Option (List ℕ) → ModuleTree → List SourceFault
used_faults names seen clock m =
    port_faults names m.ports ++ (local_faults names seen clock m.locals ++ (body_faults names seen clock m.body ++ end_faults m))

-- the faults of names of a module
abbrev pub name_faults : Names → Seen → Option (List ℕ) → ModuleTree → List SourceFault
name_faults names seen clock m =
    title_faults (seen m.name) m ++ (doubled_faults no_names (entries m) ++ used_faults names seen clock m)
