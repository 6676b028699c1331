-- What operators make of vectors where there are any: none where a width doesn't suit.
use Rattle.lola_tree.specs.Value.{repeated}
use Rattle.std.specs.Prelude.{◌≡◌, ℕ, ◌+◌, ◌^◌, ◌<◌, ◌≤◌, cond, nat_eq, nat_le, length, Option, Some, None, IfSome}
use Rattle.std.specs.List.{AllByRecursion}
use Rattle.lola_bits.specs.declared.op.Op.{Op}
use Rattle.lola_bits.specs.declared.vector.Bits.{Bits}
use Rattle.lola_bits.specs.Number.{bit_at, slice_of, joined, inverted, operate}
use Rattle.lola_bits.specs.Vector.{FitsWidth}
use Rattle.lola_tree.specs.Width.{place_width, same_width, defined_width, bit_width, slice_width, operator_width, repeated_width}
use Rattle.tab_tree.specs.declared.value.StateValue.{StateValue}
use Rattle.tab_tree.specs.declared.value.StateValue.TheVariants.{One, Many}
use Rattle.tab_tree.specs.Names.{vector, vector_by, first_width, nth_number}

-- a vector fits its width, where there is one
abbrev pub AreVectors : Option Bits → Type 0
AreVectors x = IfSome x (λ b. FitsWidth b.width b.value)

-- a value's vectors do, and those of an array have one width
abbrev pub IsElement : ℕ → Bits → Type 0
IsElement width x = FitsWidth x.width x.value × (x.width ≡ width)

abbrev pub IsValue : Option StateValue → Type 0
IsValue None = Unit {0}
IsValue (Some (One x)) = FitsWidth x.width x.value
IsValue (Some (Many xs)) = AllByRecursion (IsElement (first_width xs)) xs

-- a name read as a vector
abbrev pub whole_vector : Option StateValue → Option Bits
whole_vector None = None
whole_vector (Some (One x)) = Some x
whole_vector (Some (Many xs)) = None

-- the element of an array at a place
abbrev pub element_at : Option StateValue → Option Bits → Option Bits
element_at None place = None
element_at (Some (One x)) place = None
element_at (Some (Many xs)) None = None
element_at (Some (Many xs)) (Some p) =
    vector_by (defined_width (Some (first_width xs)) (same_width (place_width (length xs)) (Some p.width))) (nth_number xs p.value)

abbrev pub bit_taken : Option Bits → Option ℕ → Option Bits
bit_taken None place = None
bit_taken (Some x) None = None
bit_taken (Some x) (Some n) = vector_by (bit_width (Some n) (Some x.width)) (bit_at x.value n)

abbrev pub slice_taken : Option Bits → Option ℕ → Option ℕ → Option Bits
slice_taken None high low = None
slice_taken (Some x) None low = None
slice_taken (Some x) (Some h) None = None
slice_taken (Some x) (Some h) (Some l) = vector_by (slice_width (Some h) (Some l) (Some x.width)) (slice_of x.value h l)

abbrev pub negated : Option Bits → Option Bits
negated None = None
negated (Some x) = Some (vector x.width (inverted x.width x.value))

abbrev pub operated : Op → Bits → Bits → Option Bits
operated op x y = vector_by (operator_width op (Some x.width) (Some y.width)) (operate op x.width x.value y.value)

abbrev pub both : Op → Option Bits → Option Bits → Option Bits
both op None y = None
both op (Some x) None = None
both op (Some x) (Some y) = operated op x y

abbrev pub one_of : Bits → Bits → Bits → Option Bits
one_of t x y =
    vector_by (defined_width (same_width (Some x.width) (Some y.width)) (same_width (Some 1) (Some t.width))) (cond (nat_eq t.value 1) x.value y.value)

abbrev pub chosen : Option Bits → Option Bits → Option Bits → Option Bits
chosen None x y = None
chosen (Some t) None y = None
chosen (Some t) (Some x) None = None
chosen (Some t) (Some x) (Some y) = one_of t x y

-- bits so far of a concatenation, up to 128
abbrev pub cut_vector : ℕ → ℕ → Option Bits
cut_vector width number = cond (nat_le width 128) (Some (vector width number)) None

abbrev pub run_by : Option ℕ → ℕ → Option Bits
run_by None number = None
run_by (Some width) number = cut_vector width number

abbrev pub joined_run : Option Bits → Option Bits → Option Bits
joined_run None y = None
joined_run (Some x) None = None
joined_run (Some x) (Some y) = cut_vector (x.width + y.width) (joined x.value y.width y.value)

-- the bits of a concatenation so far: no bits at first
abbrev pub IsRun : Option Bits → Type 0
IsRun x = IfSome x (λ b. (b.width ≤ 128) × (b.value < 2 ^ b.width))

-- a vector so many times
abbrev pub repeated_run : Option Bits → Option ℕ → Option Bits
repeated_run None times = None
repeated_run (Some x) None = None
repeated_run (Some x) (Some times) = run_by (repeated_width (Some x.width) (Some times)) (repeated times x.width x.value)

-- a concatenation has some bits
abbrev pub whole_run : Option Bits → Option Bits
whole_run None = None
whole_run (Some x) = cond (nat_eq x.width 0) None (Some x)
