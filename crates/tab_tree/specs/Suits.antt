-- Values that suit a table, as an instruction and a valuation take them.
use Rattle.std.specs.Prelude.{◌≡◌, ℕ, List, length, Option, Some, None}
use Rattle.std.specs.List.{AllByRecursion}
use Rattle.lola_bits.specs.declared.vector.Bits.{Bits}
use Rattle.lola_bits.specs.Lists.{AreEach}
use Rattle.lola_bits.specs.Vector.{FitsWidth}
use Rattle.lola_tree.specs.Tree.{SourceTree}
use Rattle.lola_tree.specs.Value.{or_zero}
use Rattle.tab_tree.specs.declared.value.StateValue.{StateValue}
use Rattle.tab_tree.specs.declared.value.StateValue.TheVariants.{One, Many}
use Rattle.tab_tree.specs.declared.value.Answer.{Answer}
use Rattle.tab_tree.specs.Table.{StateTree, TableTree}
use Rattle.tab_tree.specs.Names.{Form, vector_form, array_form, shape_form}
use Rattle.tab_tree.specs.Registers.{port_width}
use Rattle.tab_tree.specs.Step.{Arch}
use Rattle.tab_tree.specs.Placed.{word_width}
use Rattle.tab_tree.specs.Fits.{IsFitting}

-- a vector of a width
pub record IsOf (width : ℕ) (x : Bits) : Type 0 where
  pub wide : x.width ≡ width
  pub fits : FitsWidth x.width x.value

-- a value of a form: a vector of its width, or so many elements of one
abbrev pub HasForm : Form → StateValue → Type 0
HasForm (vector_form width) (One x) = IsOf width x
HasForm (vector_form width) (Many xs) = ⊥
HasForm (array_form count width) (One x) = ⊥
HasForm (array_form count width) (Many xs) = (length xs ≡ count) × AllByRecursion (IsOf width) xs

-- states: a value of its type for each row, and no more
abbrev pub SuitsArch : TableTree → Arch → Type 0
SuitsArch T A = AreEach (λ (row : StateTree) (a : StateValue). HasForm (shape_form row.shape) a) T.states A

-- what a role brings: a vector of its port's width, or 0 of width 1 where the role is absent
abbrev pub SuitsRole : SourceTree → Option (List ℕ) → Bits → Type 0
SuitsRole S None x = (x.width ≡ 1) × (x.value ≡ 0)
SuitsRole S (Some port) x = IsOf (or_zero (port_width S port)) x

-- an answer brings what FETCHED and LOADED do
pub record SuitsAnswer (S : SourceTree) (T : TableTree) (answer : Answer) : Type 0 where
  pub code : SuitsRole S T.roles.fetched answer.code
  pub loaded : SuitsRole S T.roles.loaded answer.loaded

-- a table that fits some design, with states, a word and answers of its widths
pub record IsSuited (T : TableTree) (A : Arch) (word : Bits) (answers : List Answer) : Type 0 where
  pub source : SourceTree
  pub fitting : IsFitting source T
  pub arch : SuitsArch T A
  pub code : IsOf (word_width source T) word
  pub each : AllByRecursion (SuitsAnswer source T) answers
