-- What a cycle of a flat design leaves free, in the order of signals, and the names that it is printed under.
use Rattle.std.specs.Prelude.{ℕ, ◌+◌, Bool, false, cond, ◌&&◌, nat_eq, bytes_eq, codes, decimal, List, [], ◌∷◌, ◌++◌, length, map, Option, Some, None, slice_get}
use Rattle.lola_flat.specs.declared.design.SigKind.{SigKind}
use Rattle.lola_flat.specs.declared.design.SigKind.TheVariants.{Input, Pad, Wire, Register}
use Rattle.lola_flat.specs.Numbers.{first_numbers}
use Rattle.lola_flat.specs.Tree.{ExprTree, SignalTree, FlatTree}
use Rattle.lola_cases.specs.declared.free.FreeElement.{FreeElement}

-- a path is one name alone
abbrev pub is_alone : List (List ℕ) → List ℕ → Bool
is_alone [] name = false
is_alone (first ∷ more) name = nat_eq (length more) 0 && bytes_eq first name

-- a path is the clock's
abbrev pub is_clock_path : Option (List ℕ) → List (List ℕ) → Bool
is_clock_path None path = false
is_clock_path (Some name) path = is_alone path name

abbrev pub is_clock : FlatTree → SignalTree → Bool
is_clock F s = is_clock_path F.clock s.path

-- how many numbers a cycle is given for a signal: one for each element of an input but the clock and of a register, and
-- for a pad the one from outside
abbrev pub count_of : SigKind → Bool → ℕ → ℕ
count_of Input clock count = cond clock 0 count
count_of Register clock count = count
count_of Pad clock count = 1
count_of Wire clock count = 0

abbrev pub free_count : FlatTree → SignalTree → ℕ
free_count F s = count_of s.kind (is_clock F s) s.count

-- an element of a signal with this number and width
abbrev pub element_of : ℕ → ℕ → ℕ → FreeElement
element_of signal width element = record { signal = signal; element = element; width = width }

-- what is free of a signal, of signals from a number on, and of a design
abbrev pub free_of : FlatTree → ℕ → SignalTree → List FreeElement
free_of F n s = map (element_of n s.width) (first_numbers (free_count F s))

abbrev pub free_from : FlatTree → ℕ → List SignalTree → List FreeElement
free_from F n [] = []
free_from F n (s ∷ signals) = free_of F n s ++ free_from F (n + 1) signals

abbrev pub free_elements : FlatTree → List FreeElement
free_elements F = free_from F 0 F.signals

-- the widths of what is free
abbrev pub widths : List FreeElement → List ℕ
widths elements = map (λ (e : FreeElement). e.width) elements

abbrev pub free_widths : FlatTree → List ℕ
free_widths F = widths (free_elements F)

-- in the same order, what is free of inputs and pads alone, and what is free of registers alone
abbrev pub if_input : SigKind → List FreeElement → List FreeElement
if_input Input free = free
if_input Pad free = free
if_input Register free = []
if_input Wire free = []

abbrev pub if_register : SigKind → List FreeElement → List FreeElement
if_register Input free = []
if_register Pad free = []
if_register Register free = free
if_register Wire free = []

abbrev pub inputs_from : FlatTree → ℕ → List SignalTree → List FreeElement
inputs_from F n [] = []
inputs_from F n (s ∷ signals) = if_input s.kind (free_of F n s) ++ inputs_from F (n + 1) signals

abbrev pub registers_from : FlatTree → ℕ → List SignalTree → List FreeElement
registers_from F n [] = []
registers_from F n (s ∷ signals) = if_register s.kind (free_of F n s) ++ registers_from F (n + 1) signals

abbrev pub input_elements : FlatTree → List FreeElement
input_elements F = inputs_from F 0 F.signals

abbrev pub register_elements : FlatTree → List FreeElement
register_elements F = registers_from F 0 F.signals

-- a path is printed as its names with a dot between two
abbrev pub dotted_behind : List (List ℕ) → List ℕ
dotted_behind [] = []
dotted_behind (name ∷ path) = codes "." ++ (name ++ dotted_behind path)

abbrev pub dotted : List (List ℕ) → List ℕ
dotted [] = []
dotted (name ∷ path) = name ++ dotted_behind path

-- and behind that of an array stands the element's number in brackets
abbrev pub bracketed : Option ExprTree → ℕ → List ℕ
bracketed None element = []
bracketed (Some place) element = codes "[" ++ (decimal element ++ codes "]")

-- the name of an element of a signal; where there is no such signal it is empty
abbrev pub name_in : Option SignalTree → ℕ → List ℕ
name_in None element = []
name_in (Some s) element = dotted s.path ++ bracketed s.place element

abbrev pub name_of : FlatTree → FreeElement → List ℕ
name_of F e = name_in (slice_get F.signals e.signal) e.element
