-- The numbers that operators make of numbers below 2 to a width.
use Rattle.std.specs.Prelude.{ℕ, ◌+◌, ◌-◌, ◌*◌, ◌/◌, ◌%◌, ◌^◌, Bool, true, false, nat_eq, nat_lt, not, bit_and, bit_or, bit_xor}
use Rattle.lola_bits.specs.declared.op.Op.{Op}
use Rattle.lola_bits.specs.declared.op.Op.TheVariants as op

-- bit number n of a number
abbrev pub bit_at : ℕ → ℕ → ℕ
bit_at x n = x / 2 ^ n % 2

-- the bits from low to high
abbrev pub slice_of : ℕ → ℕ → ℕ → ℕ
slice_of x high low = x / 2 ^ low % 2 ^ (high - low + 1)

-- a number and behind it another of a width
abbrev pub joined : ℕ → ℕ → ℕ → ℕ
joined x width y = x * 2 ^ width + y

-- each bit the other way
abbrev pub inverted : ℕ → ℕ → ℕ
inverted width x = 2 ^ width - 1 - x

abbrev pub sum : ℕ → ℕ → ℕ → ℕ
sum width x y = (x + y) % 2 ^ width

abbrev pub difference : ℕ → ℕ → ℕ → ℕ
difference width x y = (2 ^ width + x - y) % 2 ^ width

-- multiplied by 2 to n, and divided by it
abbrev pub moved_up : ℕ → ℕ → ℕ → ℕ
moved_up width x n = x * 2 ^ n % 2 ^ width

abbrev pub moved_down : ℕ → ℕ → ℕ
moved_down x n = x / 2 ^ n

-- divided by 2 to n with the top bit filled in from above
abbrev pub moved_filled : ℕ → ℕ → ℕ → ℕ
moved_filled width x n = x / 2 ^ n + x / 2 ^ (width - 1) * (2 ^ width - 2 ^ (width - n))

-- turned right by n modulo the width
abbrev pub turned : ℕ → ℕ → ℕ → ℕ
turned width x n = (x / 2 ^ (n % width) + x * 2 ^ (width - n % width)) % 2 ^ width

-- 1 where it holds
abbrev pub number : Bool → ℕ
number true = 1
number false = 0

-- what an operator makes of two numbers below 2 to a width; of `~` the first counts alone
abbrev pub operate : Op → ℕ → ℕ → ℕ → ℕ
operate op.Not width x y = inverted width x
operate op.And width x y = bit_and x y
operate op.Or width x y = bit_or x y
operate op.Xor width x y = bit_xor x y
operate op.Add width x y = sum width x y
operate op.Sub width x y = difference width x y
operate op.Eq width x y = number (nat_eq x y)
operate op.Ne width x y = number (not (nat_eq x y))
operate op.Lt width x y = number (nat_lt x y)
operate op.Le width x y = number (not (nat_lt y x))
operate op.Gt width x y = number (nat_lt y x)
operate op.Ge width x y = number (not (nat_lt x y))
operate op.Shl width x y = moved_up width x y
operate op.Shr width x y = moved_down x y
operate op.Asr width x y = moved_filled width x y
operate op.Ror width x y = turned width x y
operate op.Mux width x y = 0
