-- The faults of widths: numbers and widths that are too large, widths that differ, places outside a
-- vector, and calls with another number of arguments than ports.
use Rattle.std.specs.Prelude.{ℕ, cond, nat_eq, nat_lt, List, [], ◌∷◌, ◌++◌, length, Option, Some, None}
use Rattle.lola_bits.specs.declared.op.Op.{Op}
use Rattle.lola_bits.specs.declared.op.Op.TheVariants as op
use Rattle.lola_tree.specs.declared.named.Count.{Count}
use Rattle.lola_tree.specs.declared.named.Count.TheVariants as count
use Rattle.lola_tree.specs.declared.named.Ref.{Ref}
use Rattle.lola_tree.specs.declared.named.Shape.{Shape}
use Rattle.lola_tree.specs.declared.named.Shape.TheVariants as shape
use Rattle.lola_tree.specs.declared.module.Port.{Port}
use Rattle.lola_tree.specs.declared.module.Const.{Const}
use Rattle.lola_tree.specs.declared.module.LocalKind.{LocalKind}
use Rattle.lola_tree.specs.declared.module.LocalKind.TheVariants.{Reg, Var, Inst}
use Rattle.lola_tree.specs.declared.module.Local.{Local}
use Rattle.lola_tree.specs.Tree.{Tree, number, whole, bit, slice, index, concat, negation, binary, choice, Parts, no_part, one_part, ActualTree, StmtTree, assignment, call, pad, ModuleTree}
use Rattle.lola_tree.specs.Names.{Names, count_number, ref_name}
use Rattle.lola_tree.specs.Width.{Scope, scope_over, width, total_width, is_width, is_number, entry_width, elements_width, element_width, named_shape}
use Rattle.lola_width.specs.declared.fault.SourceFault.{SourceFault}
use Rattle.lola_width.specs.declared.fault.SourceFault.TheVariants.{TooWide, Width, IndexRange, PortCount}
use Rattle.lola_width.specs.declared.interface.Pin.{Pin}
use Rattle.lola_width.specs.Interface.{Seen, instance_pins, listed, first_pin, later_pins}

-- the place of a count
abbrev pub count_at : Count → ℕ
count_at (count.Fixed value at) = at
count_at (count.Const name) = name.at

-- a width that is none
abbrev pub too_wide : ℕ → Option ℕ → List SourceFault
too_wide at None = []
too_wide at (Some n) = cond (is_width n) [] (TooWide at ∷ [])

abbrev pub shape_widths : Names → Shape → List SourceFault
shape_widths names (shape.Vector width) = too_wide (count_at width) (count_number names width)
shape_widths names (shape.Array count width) = too_wide (count_at width) (count_number names width)

abbrev pub port_widths : Names → List Port → List SourceFault
port_widths names [] = []
port_widths names (p ∷ ports) = shape_widths names p.shape ++ port_widths names ports

abbrev pub kind_widths : Names → LocalKind → List SourceFault
kind_widths names (Reg clock type) = shape_widths names type
kind_widths names (Var type) = shape_widths names type
kind_widths names (Inst of) = []

abbrev pub local_widths : Names → List Local → List SourceFault
local_widths names [] = []
local_widths names (l ∷ locals) = kind_widths names l.kind ++ local_widths names locals

-- a number that isn't below 2 to its width, or has none
abbrev pub number_faults : ℕ → Option ℕ → ℕ → List SourceFault
number_faults value written at = cond (is_number value written) [] (TooWide at ∷ [])

abbrev pub const_widths : List Const → List SourceFault
const_widths [] = []
const_widths (c ∷ consts) = number_faults c.value c.width c.number_at ++ const_widths consts

-- two widths that must be equal
abbrev pub differ : ℕ → Option ℕ → Option ℕ → List SourceFault
differ at None right = []
differ at (Some w) None = []
differ at (Some w) (Some v) = cond (nat_eq w v) [] (Width at w v ∷ [])

-- a place that isn't below a width
abbrev pub beyond : ℕ → Option ℕ → Option ℕ → List SourceFault
beyond at None width = []
beyond at (Some n) None = []
beyond at (Some n) (Some w) = cond (nat_lt n w) [] (IndexRange at ∷ [])

-- a low end above the high end
abbrev pub turned_round : ℕ → Option ℕ → Option ℕ → List SourceFault
turned_round at None low = []
turned_round at (Some h) None = []
turned_round at (Some h) (Some l) = cond (nat_lt h l) (IndexRange at ∷ []) []

-- a repetition of no times
abbrev pub never : ℕ → Option ℕ → List SourceFault
never at None = []
never at (Some n) = cond (nat_eq n 0) (TooWide at ∷ []) []

-- a concatenation that is wider than a vector may be
abbrev pub wide : ℕ → Option ℕ → List SourceFault
wide at None = []
wide at (Some n) = cond (nat_lt 128 n) (TooWide at ∷ []) []

-- shifts need no equal widths
abbrev pub operator_faults : Op → ℕ → Option ℕ → Option ℕ → List SourceFault
operator_faults op.Shl at w v = []
operator_faults op.Shr at w v = []
operator_faults op.Asr at w v = []
operator_faults op.Ror at w v = []
operator_faults other at w v = differ at w v

-- the ends of a slice
abbrev pub slice_faults : Names → Ref → Count → Count → List SourceFault
slice_faults names of high low =
    beyond (count_at high) (count_number names high) (entry_width names (names (ref_name of)))
    ++ turned_round (count_at low) (count_number names high) (count_number names low)

-- the faults of an expression
abbrev mutual
  pub expr_widths : Scope → Tree → List SourceFault
  expr_widths scope (number value written at) = number_faults value written at
  expr_widths scope (whole of) = []
  expr_widths scope (bit of place at) = beyond (count_at place) (scope.count place) (scope.width of)
  expr_widths scope (slice of high low at) =
      beyond (count_at high) (scope.count high) (scope.width of) ++ turned_round (count_at low) (scope.count high) (scope.count low)
  expr_widths scope (index of place at) = expr_widths scope place ++ differ at (scope.place of) (width scope place)
  expr_widths scope (concat parts at) = part_widths scope parts ++ wide at (total_width scope parts)
  expr_widths scope (negation arg at) = expr_widths scope arg
  expr_widths scope (binary op left right at) =
      expr_widths scope left ++ (expr_widths scope right ++ operator_faults op at (width scope left) (width scope right))
  expr_widths scope (choice test first second at) =
      expr_widths scope test
      ++ (expr_widths scope first
      ++ (expr_widths scope second
      ++ (differ at (width scope first) (width scope second) ++ differ at (Some 1) (width scope test))))

  pub part_widths : Scope → Parts → List SourceFault
  part_widths scope no_part = []
  part_widths scope (one_part value times behind) =
      expr_widths scope value ++ (never (count_at times) (scope.count times) ++ part_widths scope behind)

-- an argument against the width of its port; a clock has none to compare
abbrev pub arg_differs : Option Pin → ℕ → Option ℕ → List SourceFault
arg_differs None at width = []
arg_differs (Some pin) at width = cond pin.clock [] (differ at pin.width width)

abbrev pub args_widths : Scope → List ActualTree → List Pin → List SourceFault
args_widths scope [] pins = []
args_widths scope (a ∷ args) pins =
    expr_widths scope a.value ++ (arg_differs (first_pin pins) a.at (width scope a.value) ++ args_widths scope args (later_pins pins))

-- another number of arguments than ports
abbrev pub port_count : ℕ → Option (List Pin) → ℕ → List SourceFault
port_count at None args = []
port_count at (Some pins) args = cond (nat_eq (length pins) args) [] (PortCount at ∷ [])

abbrev pub name_width : Names → List ℕ → Option ℕ
name_width names name = entry_width names (names name)

abbrev pub stmt_widths : Names → Seen → StmtTree → List SourceFault
stmt_widths names seen (assignment name None value at equals) =
    expr_widths (scope_over names) value ++ differ equals (name_width names name) (width (scope_over names) value)
stmt_widths names seen (assignment name (Some place) value at equals) =
    expr_widths (scope_over names) place.value
    ++ (differ place.at (elements_width names (named_shape (names name))) (width (scope_over names) place.value)
    ++ (expr_widths (scope_over names) value
    ++ differ equals (element_width names (named_shape (names name))) (width (scope_over names) value)))
stmt_widths names seen (call name args at) =
    port_count at (instance_pins seen (names name)) (length args)
    ++ args_widths (scope_over names) args (listed (instance_pins seen (names name)))
stmt_widths names seen (pad io inner value release at) =
    differ inner.at (name_width names io.name) (name_width names inner.name)
    ++ (expr_widths (scope_over names) value.value
    ++ (differ value.at (name_width names io.name) (width (scope_over names) value.value)
    ++ (expr_widths (scope_over names) release.value ++ differ release.at (Some 1) (width (scope_over names) release.value))))

abbrev pub body_widths : Names → Seen → List StmtTree → List SourceFault
body_widths names seen [] = []
body_widths names seen (t ∷ body) = stmt_widths names seen t ++ body_widths names seen body

-- the faults of widths of a module, whose names these are
abbrev pub width_faults : Names → Seen → ModuleTree → List SourceFault
width_faults names seen m =
    port_widths names m.ports ++ (const_widths m.consts ++ (local_widths names m.locals ++ body_widths names seen m.body))
