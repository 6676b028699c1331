-- The widths of expressions. An expression in which a rule of widths is broken has none.
use Rattle.std.specs.Prelude.{ℕ, ◌+◌, ◌-◌, ◌*◌, ◌^◌, Bool, ◌&&◌, cond, nat_eq, nat_lt, not, Option, Some, None}
use Rattle.lola_bits.specs.declared.op.Op.{Op}
use Rattle.lola_bits.specs.declared.op.Op.TheVariants as op
use Rattle.lola_tree.specs.declared.named.Count.{Count}
use Rattle.lola_tree.specs.declared.named.Ref.{Ref}
use Rattle.lola_tree.specs.declared.named.Shape.{Shape}
use Rattle.lola_tree.specs.declared.named.Shape.TheVariants as shape
use Rattle.lola_tree.specs.Tree.{Tree, number, whole, bit, slice, index, concat, negation, binary, choice, Parts, no_part, one_part, ModuleTree}
use Rattle.lola_tree.specs.Names.{Names, Entry, port, constant, local, entry_shape, constant_number, count_number, names_of, ref_name}

-- the widths that vectors have
abbrev pub is_width : ℕ → Bool
is_width n = nat_lt 0 n && nat_lt n 129

abbrev pub checked_width : Option ℕ → Option ℕ
checked_width None = None
checked_width (Some n) = cond (is_width n) (Some n) None

-- the width that is written behind a number, or else 1
abbrev pub written_width : Option ℕ → ℕ
written_width None = 1
written_width (Some width) = width

-- a number is below 2 to its width
abbrev pub is_number : ℕ → Option ℕ → Bool
is_number value width = is_width (written_width width) && nat_lt value (2 ^ written_width width)

abbrev pub number_width : ℕ → Option ℕ → Option ℕ
number_width value width = cond (is_number value width) (Some (written_width width)) None

-- k where an array has 2 to k elements
abbrev pub place_width : ℕ → Option ℕ
place_width n =
    cond (nat_eq n 2) (Some 1) (cond (nat_eq n 4) (Some 2) (cond (nat_eq n 8) (Some 3) (cond (nat_eq n 16) (Some 4) (cond (nat_eq n 32) (Some 5)
    (cond (nat_eq n 64) (Some 6) (cond (nat_eq n 128) (Some 7) (cond (nat_eq n 256) (Some 8) (cond (nat_eq n 512) (Some 9) (cond (nat_eq n 1024) (Some 10) None)))))))))

abbrev pub checked_place : Option ℕ → Option ℕ
checked_place None = None
checked_place (Some n) = place_width n

-- the width of a type that is a vector
abbrev pub vector_width : Names → Option Shape → Option ℕ
vector_width names None = None
vector_width names (Some (shape.Vector width)) = checked_width (count_number names width)
vector_width names (Some (shape.Array count width)) = None

-- the width of the elements of a type that is an array, and that of their places
abbrev pub element_width : Names → Option Shape → Option ℕ
element_width names None = None
element_width names (Some (shape.Vector width)) = None
element_width names (Some (shape.Array count width)) = checked_width (count_number names width)

abbrev pub elements_width : Names → Option Shape → Option ℕ
elements_width names None = None
elements_width names (Some (shape.Vector width)) = None
elements_width names (Some (shape.Array count width)) = checked_place (count_number names count)

-- the type of a name that has one
abbrev pub named_shape : Option Entry → Option Shape
named_shape None = None
named_shape (Some e) = entry_shape e

-- the width of a name that is no array
abbrev pub entry_width : Names → Option Entry → Option ℕ
entry_width names None = None
entry_width names (Some (port p)) = vector_width names (Some p.shape)
entry_width names (Some (constant c)) = number_width c.value c.width
entry_width names (Some (local l)) = vector_width names (entry_shape (local l))

-- what names are where an expression stands: the number of a count, the number that a constant stands
-- for, the width of a vector, and of an array the width of an element and that of a place
pub record Scope : Type 0 where
  pub count : Count → Option ℕ
  pub number : Ref → Option ℕ
  pub width : Ref → Option ℕ
  pub element : Ref → Option ℕ
  pub place : Ref → Option ℕ

abbrev pub scope_over : Names → Scope
scope_over names = record {
  count = λ c. count_number names c;
  number = λ r. constant_number (names (ref_name r));
  width = λ r. entry_width names (names (ref_name r));
  element = λ r. element_width names (named_shape (names (ref_name r)));
  place = λ r. elements_width names (named_shape (names (ref_name r)));
}

abbrev pub scope_of : ModuleTree → Scope
scope_of m = scope_over (names_of m)

-- the width of two that must be equal
abbrev pub same_width : Option ℕ → Option ℕ → Option ℕ
same_width None other = None
same_width (Some w) None = None
same_width (Some w) (Some v) = cond (nat_eq w v) (Some w) None

-- a width where another is defined too
abbrev pub defined_width : Option ℕ → Option ℕ → Option ℕ
defined_width width None = None
defined_width width (Some v) = width

abbrev pub bit_width : Option ℕ → Option ℕ → Option ℕ
bit_width None width = None
bit_width (Some n) None = None
bit_width (Some n) (Some w) = cond (nat_lt n w) (Some 1) None

abbrev pub slice_width : Option ℕ → Option ℕ → Option ℕ → Option ℕ
slice_width None low width = None
slice_width (Some h) None width = None
slice_width (Some h) (Some l) None = None
slice_width (Some h) (Some l) (Some w) = cond (nat_lt h w && not (nat_lt h l)) (Some (h - l + 1)) None

-- what an operator makes of two widths
abbrev pub operator_width : Op → Option ℕ → Option ℕ → Option ℕ
operator_width op.Eq w v = defined_width (Some 1) (same_width w v)
operator_width op.Ne w v = defined_width (Some 1) (same_width w v)
operator_width op.Lt w v = defined_width (Some 1) (same_width w v)
operator_width op.Le w v = defined_width (Some 1) (same_width w v)
operator_width op.Gt w v = defined_width (Some 1) (same_width w v)
operator_width op.Ge w v = defined_width (Some 1) (same_width w v)
operator_width op.Shl w v = defined_width w v
operator_width op.Shr w v = defined_width w v
operator_width op.Asr w v = defined_width w v
operator_width op.Ror w v = defined_width w v
operator_width op.And w v = same_width w v
operator_width op.Or w v = same_width w v
operator_width op.Xor w v = same_width w v
operator_width op.Add w v = same_width w v
operator_width op.Sub w v = same_width w v
operator_width op.Not w v = None
operator_width op.Mux w v = None

-- what stands several times, and then more
abbrev pub repeated_width : Option ℕ → Option ℕ → Option ℕ
repeated_width None times = None
repeated_width (Some w) None = None
repeated_width (Some w) (Some n) = cond (nat_eq n 0) None (Some (n * w))

abbrev pub joined_width : Option ℕ → Option ℕ → Option ℕ
joined_width None more = None
joined_width (Some w) None = None
joined_width (Some w) (Some v) = Some (w + v)

-- the width of an expression
abbrev mutual
  pub width : Scope → Tree → Option ℕ
  width scope (number value written at) = number_width value written
  width scope (whole of) = scope.width of
  width scope (bit of place at) = bit_width (scope.count place) (scope.width of)
  width scope (slice of high low at) = slice_width (scope.count high) (scope.count low) (scope.width of)
  width scope (index of place at) = defined_width (scope.element of) (same_width (scope.place of) (width scope place))
  width scope (concat parts at) = checked_width (total_width scope parts)
  width scope (negation arg at) = width scope arg
  width scope (binary op left right at) = operator_width op (width scope left) (width scope right)
  width scope (choice test first second at) =
      defined_width (same_width (width scope first) (width scope second)) (same_width (Some 1) (width scope test))

  -- the width of the parts of a concatenation together, which may be too large for a vector
  pub total_width : Scope → Parts → Option ℕ
  total_width scope no_part = Some 0
  total_width scope (one_part value times behind) =
      joined_width (repeated_width (width scope value) (scope.count times)) (total_width scope behind)
