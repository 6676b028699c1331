-- What a cycle of a source leaves free, element by element in signal order, with its name and width; and what a state
-- and an input give to it.
use Rattle.std.specs.Prelude.{◌≡◌, ◌≢◌, ℕ, List, [], ◌++◌, map, flat_map, codes, decimal, Some}
use Rattle.lola_bits.specs.Lists.{IsIn}
use Rattle.lola_flat.specs.Numbers.{first_numbers}
use Rattle.lola_cases.specs.Free.{dotted}
use Rattle.lola_tree.specs.declared.named.Shape.{Shape}
use Rattle.lola_tree.specs.declared.named.Shape.TheVariants as shape
use Rattle.lola_tree.specs.Tree.{SourceTree}
use Rattle.lola_tree.specs.Names.{Names}
use Rattle.lola_tree.specs.Width.{vector_width, element_width}
use Rattle.lola_tree.specs.Value.{Values, or_zero}
use Rattle.lola_tree.specs.design.Signals.{Kind, clock, input, pad, wire, register, Signal, signals, elements}
use Rattle.lola_tree.specs.design.Cycle.{IsSignal, AreSame, IsState, Cycle, Next}
use Rattle.lola_meaning.specs.Tables.{table_of, state_of, values_of}

-- an element of a signal, by its number; of a vector there is one
pub record Element : Type 0 where
  pub signal : Signal
  pub number : ℕ

abbrev pub element_of : Signal → ℕ → Element
element_of x n = record { signal = x; number = n }

abbrev pub all_elements : Signal → List Element
all_elements x = map (element_of x) (first_numbers (elements x.names x.type))

-- the elements of inputs, pads and registers are free; the clock has no value, and wires have what their equations give
abbrev pub free_by : Kind → List Element → List Element
free_by clock each = []
free_by input each = each
free_by pad each = each
free_by wire each = []
free_by register each = each

abbrev pub free_elements : Signal → List Element
free_elements x = free_by x.kind (all_elements x)

-- all that a cycle leaves free
abbrev pub free_of : SourceTree → List Element
free_of S = flat_map free_elements (signals S)

-- of that, what the input gives, and what the state gives
abbrev pub if_input : Kind → List Element → List Element
if_input clock each = []
if_input input each = each
if_input pad each = each
if_input wire each = []
if_input register each = []

abbrev pub if_register : Kind → List Element → List Element
if_register clock each = []
if_register input each = []
if_register pad each = []
if_register wire each = []
if_register register each = each

abbrev pub input_elements : SourceTree → List Element
input_elements S = flat_map (λ (x : Signal). if_input x.kind (all_elements x)) (signals S)

abbrev pub register_elements : SourceTree → List Element
register_elements S = flat_map (λ (x : Signal). if_register x.kind (all_elements x)) (signals S)

-- the values of elements
abbrev pub value_at : Values → Element → ℕ
value_at v e = v e.signal.path e.number

abbrev pub values_at : Values → List Element → List ℕ
values_at v each = map (value_at v) each

-- a register has its value in the state, and an input or a pad has that of the input
abbrev pub value_by : Kind → (stored entered : ℕ) → ℕ
value_by clock stored entered = entered
value_by input stored entered = entered
value_by pad stored entered = entered
value_by wire stored entered = entered
value_by register stored entered = stored

abbrev pub value_in : (s inp : Values) → Element → ℕ
value_in s inp e = value_by e.signal.kind (value_at s e) (value_at inp e)

-- what a state and an input give to all that is free
abbrev pub case_of : SourceTree → (s inp : Values) → List ℕ
case_of S s inp = map (value_in s inp) (free_of S)

-- the numbers in a table, row behind row
abbrev pub numbers_in : List (List ℕ) → List ℕ
numbers_in table = flat_map (λ (row : List ℕ). row) table

-- an element is printed as the path of its signal; of an array its number follows in brackets
abbrev pub numbered : Shape → ℕ → List ℕ
numbered (shape.Vector width) n = []
numbered (shape.Array count width) n = codes "[" ++ (decimal n ++ codes "]")

abbrev pub name_of : Element → List ℕ
name_of e = dotted e.signal.path ++ numbered e.signal.type e.number

-- the width in bits of a type's elements
abbrev pub width_by : Names → Shape → ℕ
width_by names (shape.Vector width) = or_zero (vector_width names (Some (shape.Vector width)))
width_by names (shape.Array count width) = or_zero (element_width names (Some (shape.Array count width)))

abbrev pub width_of : Element → ℕ
width_of e = width_by e.signal.names e.signal.type

-- a table and the one behind it are what a source does from a state under an input: its values are a cycle, the
-- state behind that stands in the other, and every cycle, and every state behind one, is the same and has these tables
pub record IsWhatItDoes (S : SourceTree) (s inp : Values) (N after : List (List ℕ)) : Type 0 where
  pub cycle : Cycle S s inp (values_of S N)
  pub next : Next S (values_of S N) (values_of S after)
  pub is_state : IsState S (values_of S after)
  pub same : (v : Values) → Cycle S s inp v → (x : Signal) → IsIn x (signals S) → x.kind ≢ clock → AreSame x.names x.type (v x.path) (values_of S N x.path)
  pub same_next : (v t : Values) → Cycle S s inp v → Next S v t → (x : Signal) → IsSignal S register x → AreSame x.names x.type (t x.path) (values_of S after x.path)
  pub table : (v : Values) → Cycle S s inp v → table_of S v ≡ N
  pub state : (v t : Values) → Cycle S s inp v → Next S v t → state_of S t ≡ after
