-- What names stand for in the expressions of a table. A value is a vector of a width or an array of
-- such vectors; a name is in scope where it has one. The value of an expression is that which the
-- same expression has in a design, over the widths and numbers of its names.
use Rattle.std.specs.Prelude.{ℕ, zero, suc, ◌+◌, ◌-◌, ◌*◌, Bool, true, false, not, ◌&&◌, ◌||◌, nat_eq, nat_le, if◌then◌else◌, List, [], ◌∷◌, length, bytes_eq, codes, Option, Some, None}
use Rattle.lola_bits.specs.declared.vector.Bits.{Bits}
use Rattle.lola_tree.specs.declared.named.Count.{Count}
use Rattle.lola_tree.specs.declared.named.Count.TheVariants.{Fixed, Const}
use Rattle.lola_tree.specs.declared.named.Ref.{Ref}
use Rattle.lola_tree.specs.declared.named.Shape.{Shape}
use Rattle.lola_tree.specs.declared.named.Shape.TheVariants.{Vector, Array}
use Rattle.lola_tree.specs.Tree.{Tree}
use Rattle.lola_tree.specs.Width.{Scope, place_width, width}
use Rattle.lola_tree.specs.Names.{ref_name}
use Rattle.lola_tree.specs.Value.{or_zero, value}
use Rattle.tab_tree.specs.declared.value.StateValue.{StateValue}
use Rattle.tab_tree.specs.declared.value.StateValue.TheVariants.{One, Many}
use Rattle.tab_tree.specs.Table.{StateTree, LetTree}

-- a vector of a width
abbrev pub vector : ℕ → ℕ → Bits
vector width number = record { width = width; value = number }

-- what is known of a value without its numbers: the width of a vector, or how many elements an array
-- has, and their width
pub data Form : Type 0 where
  vector_form : (width : ℕ) → Form
  array_form : (count width : ℕ) → Form

-- what names stand for, of values or of their forms: the word `i`, the count `k`, the loaded words `dj`
-- and the accumulators `tj` by the number of their phase, states, fields and LETs, and `@` names
pub record Names (X : Type 0) : Type 0 where
  pub word : Option X
  pub count : Option X
  pub loaded : ℕ → Option X
  pub turned : ℕ → Option X
  pub named : List ℕ → Option X
  pub register : List (List ℕ) → Option X

-- no name is in scope
abbrev pub nothing : {X Y : Type 0} → X → Option Y
nothing x = None

abbrev pub no_names : {X : Type 0} → Names X
no_names = record { word = None; count = None; loaded = nothing; turned = nothing; named = nothing; register = nothing }

-- decimal digits, and the number that they spell behind another
abbrev pub is_digit : ℕ → Bool
is_digit c = nat_le 48 c && nat_le c 57

abbrev pub are_digits : List ℕ → Bool
are_digits [] = true
are_digits (c ∷ cs) = is_digit c && are_digits cs

abbrev pub digits_number : List ℕ → ℕ → ℕ
digits_number [] n = n
digits_number (c ∷ cs) n = digits_number cs (10 * n + (c - 48))

-- digits as numbers are written: no 0 stands before others
abbrev pub is_empty : List ℕ → Bool
is_empty [] = true
is_empty (c ∷ cs) = false

abbrev pub is_decimal : List ℕ → Bool
is_decimal [] = false
is_decimal (c ∷ cs) = is_digit c && are_digits cs && (not (nat_eq c 48) || is_empty cs)

-- the number behind a letter, where a name is that letter and a number
abbrev pub numbered : ℕ → List ℕ → Option ℕ
numbered letter [] = None
numbered letter (c ∷ cs) = if nat_eq c letter && is_decimal cs then Some (digits_number cs 0) else None

abbrev pub or_else : {X Y : Type 0} → Option X → (X → Y) → Y → Y
or_else None f y = y
or_else (Some x) f y = f x

-- what a bare name stands for, and any: `d` is byte 100, and `t` 116
abbrev pub bare_name : {X : Type 0} → Names X → List ℕ → Option X
bare_name names name =
    if bytes_eq name (codes "i") then names.word else if bytes_eq name (codes "k") then names.count else
    or_else (numbered 100 name) names.loaded (or_else (numbered 116 name) names.turned (names.named name))

abbrev pub look : {X : Type 0} → Names X → Ref → Option X
look names r = if r.source then names.register r.path else bare_name names (ref_name r)

-- the width of the first of some vectors
abbrev pub first_width : List Bits → ℕ
first_width [] = 0
first_width (x ∷ xs) = x.width

abbrev pub form_of : StateValue → Form
form_of (One x) = vector_form x.width
form_of (Many xs) = array_form (length xs) (first_width xs)

abbrev pub mapped : {X Y : Type 0} → (X → Y) → Option X → Option Y
mapped f None = None
mapped f (Some x) = Some (f x)

abbrev pub forms_of : Names StateValue → Names Form
forms_of names = record {
  word = mapped form_of names.word;
  count = mapped form_of names.count;
  loaded = λ j. mapped form_of (names.loaded j);
  turned = λ j. mapped form_of (names.turned j);
  named = λ name. mapped form_of (names.named name);
  register = λ path. mapped form_of (names.register path);
}

-- the width of a vector, and of an array that of an element and that of a place
abbrev pub form_width : Option Form → Option ℕ
form_width None = None
form_width (Some (vector_form width)) = Some width
form_width (Some (array_form count width)) = None

abbrev pub form_element : Option Form → Option ℕ
form_element None = None
form_element (Some (vector_form width)) = None
form_element (Some (array_form count width)) = Some width

abbrev pub form_place : Option Form → Option ℕ
form_place None = None
form_place (Some (vector_form width)) = None
form_place (Some (array_form count width)) = place_width count

-- counts in tables are numbers
abbrev pub fixed : Count → Option ℕ
fixed (Fixed number at) = Some number
fixed (Const name) = None

-- where an expression stands, by the forms of its names; tables have no constants
abbrev pub scope_by : Names Form → Scope
scope_by forms = record {
  count = fixed;
  number = λ r. None;
  width = λ r. form_width (look forms r);
  element = λ r. form_element (look forms r);
  place = λ r. form_place (look forms r);
}

-- a number of a list of vectors, or 0 behind its end
abbrev pub nth_number : List Bits → ℕ → ℕ
nth_number [] n = 0
nth_number (x ∷ xs) zero = x.value
nth_number (x ∷ xs) (suc n) = nth_number xs n

-- the numbers of a value: a vector is element 0
abbrev pub number_at : Option StateValue → ℕ → ℕ
number_at None n = 0
number_at (Some (One x)) n = x.value
number_at (Some (Many xs)) n = nth_number xs n

-- the vector that an expression stands for: none where it has no width, since a name in it isn't in
-- scope or a rule of widths is broken
abbrev pub vector_by : Option ℕ → ℕ → Option Bits
vector_by None number = None
vector_by (Some width) number = Some (vector width number)

abbrev pub table_vector : Names StateValue → Tree → Option Bits
table_vector names e = vector_by (width (scope_by (forms_of names)) e) (value (scope_by (forms_of names)) e (λ r n. number_at (look names r) n))

-- its value, which without a width is the vector of no bits, and its number
abbrev pub or_empty : Option Bits → Bits
or_empty None = vector 0 0
or_empty (Some x) = x

abbrev pub table_value : Names StateValue → Tree → Bits
table_value names e = or_empty (table_vector names e)

abbrev pub table_number : Names StateValue → Tree → ℕ
table_number names e = (table_value names e).value

-- names with one more state, field or LET
abbrev pub with_name : {X : Type 0} → Names X → List ℕ → Option X → Names X
with_name names name x = record names { named = λ other. if bytes_eq name other then x else names.named other }

-- a field or a LET stands for the value of its expression; where that has none, it isn't in scope
-- either
abbrev pub with_rows : List LetTree → Names StateValue → Names StateValue
with_rows [] names = names
with_rows (row ∷ rows) names = with_rows rows (with_name names row.name (mapped One (table_vector names row.value)))

-- the same of forms alone
abbrev pub with_forms : List LetTree → Names Form → Names Form
with_forms [] forms = forms
with_forms (row ∷ rows) forms = with_forms rows (with_name forms row.name (mapped vector_form (width (scope_by forms) row.value)))

-- the width of a type, and the form of what has it
abbrev pub shape_width : Shape → ℕ
shape_width (Vector width) = or_zero (fixed width)
shape_width (Array count width) = or_zero (fixed width)

abbrev pub shape_form : Shape → Form
shape_form (Vector width) = vector_form (or_zero (fixed width))
shape_form (Array count width) = array_form (or_zero (fixed count)) (or_zero (fixed width))

-- the form of a state by its name
abbrev pub state_form : List StateTree → List ℕ → Option Form
state_form [] name = None
state_form (row ∷ rows) name = if bytes_eq row.name name then Some (shape_form row.shape) else state_form rows name
