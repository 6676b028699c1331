-- The numbers that the names of a class stand for: the word, the states and the fields, loaded words, accumulators and
-- the count, and `@` names; then the LETs.
use Rattle.std.specs.Prelude.{ℕ, suc, if◌then◌else◌, List, [], ◌∷◌, bytes_eq, Option, Some, None}
use Rattle.lola_flat.specs.Tree.{ExprTree}
use Rattle.tab_tree.specs.Table.{StateTree, InsideTree, TableTree}
use Rattle.tab_tree.specs.Names.{Names, no_names}
use Rattle.tab_tree.specs.Step.{first_of}
use Rattle.tab_numbered.specs.Numbered.{row_exprs, with_numbers}

-- the number of a state by its name, where each has one by the number of its row
abbrev pub state_number : List StateTree → (ℕ → ℕ) → ℕ → List ℕ → Option ℕ
state_number [] numbers n name = None
state_number (row ∷ rows) numbers n name = if bytes_eq row.name name then Some (numbers n) else state_number rows numbers (suc n) name

-- what has a number before any row of FIELDS or LET
pub record Given : Type 0 where
  pub word : ℕ
  pub states : ℕ → ℕ
  pub loaded : ℕ → Option ℕ
  pub turned : ℕ → Option ℕ
  pub count : Option ℕ
  pub register : List (List ℕ) → Option ℕ

-- the names of fields: the word alone
abbrev pub word_numbers : Given → Names ℕ
word_numbers g = record no_names { word = Some g.word }

abbrev pub field_numbers : TableTree → Given → ℕ → List ℕ → Option ℕ
field_numbers T g n = (with_numbers T.fields (word_numbers g) n).named

-- the names of a class but for its LETs; the rows of the fields begin with number n
abbrev pub bare_numbers : TableTree → Given → ℕ → Names ℕ
bare_numbers T g n = record {
  word = Some g.word;
  count = g.count;
  loaded = g.loaded;
  turned = g.turned;
  named = λ name. first_of (state_number T.states g.states 0 name) (field_numbers T g n name);
  register = g.register;
}

-- the rows of the fields, and those of the LETs
abbrev pub field_exprs : TableTree → Given → ℕ → List ExprTree
field_exprs T g n = row_exprs T.fields (word_numbers g) n

abbrev pub let_exprs : TableTree → InsideTree → Given → (fields lets : ℕ) → List ExprTree
let_exprs T b g fields lets = row_exprs b.lets (bare_numbers T g fields) lets

abbrev pub class_numbers : TableTree → InsideTree → Given → (fields lets : ℕ) → Names ℕ
class_numbers T b g fields lets = with_numbers b.lets (bare_numbers T g fields) lets
