-- What expressions mean: a value is a number, which as a vector has the width of its expression.
use Rattle.std.specs.Prelude.{ℕ, zero, suc, cond, nat_eq, List, Option, Some, None}
use Rattle.lola_bits.specs.Number.{bit_at, slice_of, joined, inverted, operate}
use Rattle.lola_tree.specs.declared.named.Ref.{Ref}
use Rattle.lola_tree.specs.Tree.{Tree, number, whole, bit, slice, index, concat, negation, binary, choice, Parts, no_part, one_part}
use Rattle.lola_tree.specs.Width.{Scope, width, total_width}

-- a path: the names of instances, and then a name
abbrev pub Path : Type 0
Path = List (List ℕ)

-- the numbers at each path: a vector is element 0, and the elements of an array follow their numbers
abbrev pub Values : Type 0
Values = Path → ℕ → ℕ

-- what is defined, or else 0
abbrev pub or_zero : Option ℕ → ℕ
or_zero None = 0
or_zero (Some n) = n

-- the number of a constant where a name is one, or else that of the name
abbrev pub or_read : Option ℕ → ℕ → ℕ
or_read None n = n
or_read (Some c) n = c

-- a number several times, one behind another
abbrev pub repeated : ℕ → ℕ → ℕ → ℕ
repeated zero w x = 0
repeated (suc times) w x = joined (repeated times w x) w x

abbrev mutual
  -- the value of an expression, where each reference names a vector or the elements of an array
  pub value : Scope → Tree → (Ref → ℕ → ℕ) → ℕ
  value scope (number n written at) read = n
  value scope (whole of) read = or_read (scope.number of) (read of 0)
  value scope (bit of place at) read = bit_at (or_read (scope.number of) (read of 0)) (or_zero (scope.count place))
  value scope (slice of high low at) read =
      slice_of (or_read (scope.number of) (read of 0)) (or_zero (scope.count high)) (or_zero (scope.count low))
  value scope (index of place at) read = read of (value scope place read)
  value scope (concat parts at) read = value_of_parts scope parts read
  value scope (negation arg at) read = inverted (or_zero (width scope arg)) (value scope arg read)
  value scope (binary op left right at) read = operate op (or_zero (width scope left)) (value scope left read) (value scope right read)
  value scope (choice test first second at) read = cond (nat_eq (value scope test read) 1) (value scope first read) (value scope second read)

  -- the value of the parts of a concatenation, the leftmost highest
  pub value_of_parts : Scope → Parts → (Ref → ℕ → ℕ) → ℕ
  value_of_parts scope no_part read = 0
  value_of_parts scope (one_part e times behind) read =
      joined (repeated (or_zero (scope.count times)) (or_zero (width scope e)) (value scope e read))
      (or_zero (total_width scope behind)) (value_of_parts scope behind read)
