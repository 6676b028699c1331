-- What a state shows of a table, as expressions over the rows of its registers, which stand from some number on.
use Rattle.std.specs.Prelude.{◌≡◌, ℕ, List, [], ◌∷◌, Option, Some, None}
use Rattle.lola_flat.specs.Tree.{ExprTree, number}
use Rattle.lola_flat.specs.Value.{Env, elements, value}
use Rattle.lola_tree.specs.declared.named.Shape.{Shape}
use Rattle.lola_tree.specs.declared.named.Shape.TheVariants.{Vector, Array}
use Rattle.lola_tree.specs.Tree.{Tree, whole, SourceTree}
use Rattle.lola_tree.specs.Value.{Values, or_zero}
use Rattle.lola_renamed.specs.Renamed.{renamed}
use Rattle.lola_renamed.specs.Reads.{FitsIn}
use Rattle.tab_tree.specs.Table.{StateTree}
use Rattle.tab_tree.specs.Names.{look, fixed, shape_form}
use Rattle.tab_tree.specs.Headline.{row_shown}
use Rattle.tab_numbered.specs.Numbered.{numbered}
use Rattle.tab_numbered.specs.Rows.{value_numbers, HasRow}
use Rattle.obl_rows.specs.Registers.{registers_from}

-- an expression over registers
abbrev pub over_registers : SourceTree → ℕ → Tree → ExprTree
over_registers S from e = renamed (numbered (registers_from S from)) e

-- the word: CODE, or 0 of width 1
abbrev pub word_expr : SourceTree → ℕ → Option Tree → ExprTree
word_expr S from None = number 1 0
word_expr S from (Some e) = over_registers S from e

-- the row of a state that is an array: that of the registers that it names
abbrev pub array_row : SourceTree → ℕ → Tree → ℕ
array_row S from (whole of) = or_zero (look (registers_from S from) of)
array_row S from other = 0

-- a state is shown with the width of its type: a vector by an expression, and an array by a row
abbrev pub ShowsFit : SourceTree → Env ℕ → ℕ → Shape → Tree → Type 0
ShowsFit S W from (Vector width) e = FitsIn W (over_registers S from e) (or_zero (fixed width))
ShowsFit S W from (Array count width) e = HasRow W (shape_form (Array count width)) (array_row S from e)

-- and with its value
abbrev pub ShownBy : SourceTree → (W N : Env ℕ) → ℕ → Shape → Tree → List ℕ → Type 0
ShownBy S W N from (Vector width) e numbers = value W N (over_registers S from e) ∷ [] ≡ numbers
ShownBy S W N from (Array count width) e numbers = elements N (array_row S from e) ≡ numbers

abbrev pub ShowsRow : SourceTree → (W N : Env ℕ) → ℕ → Values → StateTree → Type 0
ShowsRow S W N from s row = ShownBy S W N from row.shape row.shown (value_numbers (row_shown S row s))
