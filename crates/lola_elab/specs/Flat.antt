-- Expressions over vectors that are known by their numbers: the width and the number of each, where the
-- vectors have these widths and numbers.
use Rattle.std.specs.Prelude.{◌≡◌, ℕ, ◌^◌, cond, nat_eq, nat_lt, List, Option, Some, None, slice_get, slice_index_or}
use Rattle.lola_bits.specs.Number.{slice_of, joined, inverted, operate}
use Rattle.lola_tree.specs.Width.{checked_width, same_width, defined_width, slice_width, operator_width, repeated_width, joined_width}
use Rattle.lola_tree.specs.Value.{or_zero, repeated}
use Rattle.lola_elab.specs.declared.flat.Flat.{Flat}
use Rattle.lola_elab.specs.declared.flat.Flat.TheVariants.{Number, Leaf, Slice', Join', Repeat', Not', Both', Choice'}

-- the width, where there is one: numbers lie below 2 to their width, slices within their vector, and an
-- operator takes vectors of 1 to 128 bits
abbrev pub flat_width : List ℕ → Flat → Option ℕ
flat_width widths (Number width value) = cond (nat_lt value (2 ^ width)) (Some width) None
flat_width widths (Leaf number) = slice_get widths number
flat_width widths (Slice' p of high low) = slice_width (Some high) (Some low) (flat_width widths of)
flat_width widths (Join' p high q low) = joined_width (flat_width widths high) (flat_width widths low)
flat_width widths (Repeat' p part times) = repeated_width (flat_width widths part) (Some times)
flat_width widths (Not' p arg) = checked_width (flat_width widths arg)
flat_width widths (Both' op p left q right) = operator_width op (checked_width (flat_width widths left)) (checked_width (flat_width widths right))
flat_width widths (Choice' p test q first r second) =
    defined_width (same_width (checked_width (flat_width widths first)) (checked_width (flat_width widths second))) (same_width (Some 1) (flat_width widths test))

-- the number
abbrev pub flat_number : List ℕ → Flat → List ℕ → ℕ
flat_number widths (Number width value) numbers = value
flat_number widths (Leaf number) numbers = slice_index_or numbers number 0
flat_number widths (Slice' p of high low) numbers = slice_of (flat_number widths of numbers) high low
flat_number widths (Join' p high q low) numbers =
    joined (flat_number widths high numbers) (or_zero (flat_width widths low)) (flat_number widths low numbers)
flat_number widths (Repeat' p part times) numbers = repeated times (or_zero (flat_width widths part)) (flat_number widths part numbers)
flat_number widths (Not' p arg) numbers = inverted (or_zero (flat_width widths arg)) (flat_number widths arg numbers)
flat_number widths (Both' op p left q right) numbers =
    operate op (or_zero (flat_width widths left)) (flat_number widths left numbers) (flat_number widths right numbers)
flat_number widths (Choice' p test q first r second) numbers =
    cond (nat_eq (flat_number widths test numbers) 1) (flat_number widths first numbers) (flat_number widths second numbers)

-- it has a width
pub record HasWidth (widths : List ℕ) (flat : Flat) : Type 0 where
  pub width : ℕ
  pub is : flat_width widths flat ≡ Some width

-- what an expression is made of has widths
abbrev pub PartsHaveWidths : List ℕ → Flat → Type 0
PartsHaveWidths widths (Number width value) = Unit {0}
PartsHaveWidths widths (Leaf number) = Unit {0}
PartsHaveWidths widths (Slice' p of high low) = HasWidth widths of
PartsHaveWidths widths (Join' p high q low) = HasWidth widths high × HasWidth widths low
PartsHaveWidths widths (Repeat' p part times) = HasWidth widths part
PartsHaveWidths widths (Not' p arg) = HasWidth widths arg
PartsHaveWidths widths (Both' op p left q right) = HasWidth widths left × HasWidth widths right
PartsHaveWidths widths (Choice' p test q first r second) = HasWidth widths test × HasWidth widths first × HasWidth widths second
