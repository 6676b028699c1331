-- The registers and ports of a design, as tables name them: their widths, and their values in a state
-- and a cycle.
use Rattle.std.specs.Prelude.{ℕ, zero, suc, Bool, true, false, ◌&&◌, if◌then◌else◌, bytes_eq, List, [], ◌∷◌, Option, Some, None}
use Rattle.lola_bits.specs.declared.vector.Bits.{Bits}
use Rattle.lola_tree.specs.declared.named.Shape.{Shape}
use Rattle.lola_tree.specs.declared.named.Shape.TheVariants.{Vector, Array}
use Rattle.lola_tree.specs.Tree.{SourceTree}
use Rattle.lola_tree.specs.Names as lola
use Rattle.lola_tree.specs.Width.{vector_width, element_width}
use Rattle.lola_tree.specs.Value.{Path, Values}
use Rattle.lola_tree.specs.design.Signals.{Kind, clock, input, pad, wire, register, Signal, signals}
use Rattle.tab_tree.specs.declared.value.StateValue.{StateValue}
use Rattle.tab_tree.specs.declared.value.StateValue.TheVariants.{One, Many}
use Rattle.tab_tree.specs.Names.{vector, Form, vector_form, array_form, Names, no_names, mapped, form_width}

-- the form of what has a type in a module
abbrev pub array_by : Option ℕ → Option ℕ → Option Form
array_by None width = None
array_by (Some count) width = mapped (array_form count) width

abbrev pub type_form : lola.Names → Shape → Option Form
type_form names (Vector width) = mapped vector_form (vector_width names (Some (Vector width)))
type_form names (Array count width) = array_by (lola.count_number names count) (element_width names (Some (Array count width)))

abbrev pub is_path : Path → Path → Bool
is_path [] [] = true
is_path [] (name ∷ names) = false
is_path (name ∷ names) [] = false
is_path (name ∷ names) (other ∷ others) = bytes_eq name other && is_path names others

abbrev pub is_register : Kind → Bool
is_register clock = false
is_register input = false
is_register pad = false
is_register wire = false
is_register register = true

-- the form of the register among some signals that has a path
abbrev pub register_among : List Signal → Path → Option Form
register_among [] path = None
register_among (x ∷ signals) path = if is_register x.kind && is_path x.path path then type_form x.names x.type else register_among signals path

-- the registers of a design by their paths, with their forms
abbrev pub registers_of : SourceTree → Path → Option Form
registers_of S path = register_among (signals S) path

-- the form of the signal of any kind that has a path
abbrev pub signal_among : List Signal → Path → Option Form
signal_among [] path = None
signal_among (x ∷ signals) path = if is_path x.path path then type_form x.names x.type else signal_among signals path

-- the width of a port of the root
abbrev pub port_width : SourceTree → List ℕ → Option ℕ
port_width S name = form_width (signal_among (signals S) (name ∷ []))

-- so many vectors of a width, by the number of each
abbrev pub elements : ℕ → ℕ → ℕ → (ℕ → ℕ) → List Bits
elements zero n width numbers = []
elements (suc count) n width numbers = vector width (numbers n) ∷ elements count (suc n) width numbers

-- the value of a form with these numbers
abbrev pub value_by : Option Form → (ℕ → ℕ) → Option StateValue
value_by None numbers = None
value_by (Some (vector_form width)) numbers = Some (One (vector width (numbers 0)))
value_by (Some (array_form count width)) numbers = Some (Many (elements count 0 width numbers))

-- the registers in a state of the design
abbrev pub registers_at : SourceTree → Values → Path → Option StateValue
registers_at S s path = value_by (registers_of S path) (s path)

-- the names of expressions over registers: `@` names alone
abbrev pub source_forms : SourceTree → Names Form
source_forms S = record no_names { register = registers_of S }

abbrev pub source_names : SourceTree → Values → Names StateValue
source_names S s = record no_names { register = registers_at S s }
