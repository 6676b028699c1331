-- What the signals that names stand for hold: their widths are those of the names' forms, and their numbers those of
-- the names' values. Of a name that isn't in scope nothing is asked.
use Rattle.std.specs.Prelude.{◌≡◌, ℕ, ◌+◌, ◌<◌, List, [], ◌∷◌, ◌++◌, map, length, replicate, Option, Some, None, slice_get}
use Rattle.lola_bits.specs.declared.vector.Bits.{Bits}
use Rattle.lola_alg.specs.Means.{IsWidth}
use Rattle.lola_flat.specs.Tree.{ExprTree}
use Rattle.lola_flat.specs.Value.{Env, env, elements, width, value}
use Rattle.tab_tree.specs.declared.value.StateValue.{StateValue}
use Rattle.tab_tree.specs.declared.value.StateValue.TheVariants.{One, Many}
use Rattle.tab_tree.specs.Table.{StateTree}
use Rattle.tab_tree.specs.Names.{Form, vector_form, array_form, shape_form, Names}
use Rattle.tab_tree.specs.Step.{Arch}

-- the widths of the elements of what has a form, and the numbers of a value
abbrev pub form_widths : Form → List ℕ
form_widths (vector_form wide) = wide ∷ []
form_widths (array_form count wide) = replicate count wide

abbrev pub number_of : Bits → ℕ
number_of x = x.value

abbrev pub value_numbers : StateValue → List ℕ
value_numbers (One x) = x.value ∷ []
value_numbers (Many xs) = map number_of xs

abbrev pub wide_form : Form → ℕ
wide_form (vector_form wide) = wide
wide_form (array_form count wide) = wide

-- a signal has a form
pub record HasRow (W : Env ℕ) (form : Form) (n : ℕ) : Type 0 where
  pub inside : n < length W.signals
  pub is : elements W n ≡ form_widths form
  pub wide : IsWidth (wide_form form)

-- a name that is in scope has a signal of its form
abbrev pub HasRowAt : Env ℕ → Option Form → Option ℕ → Type 0
HasRowAt W None number = Unit {0}
HasRowAt W (Some form) None = ⊥
HasRowAt W (Some form) (Some n) = HasRow W form n

pub record AreRows (W : Env ℕ) (forms : Names Form) (numbers : Names ℕ) : Type 0 where
  pub word : HasRowAt W forms.word numbers.word
  pub count : HasRowAt W forms.count numbers.count
  pub loaded : (j : ℕ) → HasRowAt W (forms.loaded j) (numbers.loaded j)
  pub turned : (j : ℕ) → HasRowAt W (forms.turned j) (numbers.turned j)
  pub named : (name : List ℕ) → HasRowAt W (forms.named name) (numbers.named name)
  pub register : (path : List (List ℕ)) → HasRowAt W (forms.register path) (numbers.register path)

-- and its value
abbrev pub HoldsAt : Env ℕ → Option StateValue → Option ℕ → Type 0
HoldsAt N None number = Unit {0}
HoldsAt N (Some a) None = ⊥
HoldsAt N (Some a) (Some n) = (n < length N.signals) × (elements N n ≡ value_numbers a)

pub record HoldValues (N : Env ℕ) (values : Names StateValue) (numbers : Names ℕ) : Type 0 where
  pub word : HoldsAt N values.word numbers.word
  pub count : HoldsAt N values.count numbers.count
  pub loaded : (j : ℕ) → HoldsAt N (values.loaded j) (numbers.loaded j)
  pub turned : (j : ℕ) → HoldsAt N (values.turned j) (numbers.turned j)
  pub named : (name : List ℕ) → HoldsAt N (values.named name) (numbers.named name)
  pub register : (path : List (List ℕ)) → HoldsAt N (values.register path) (numbers.register path)

-- one more signal behind others, a vector
abbrev pub more : Env ℕ → ℕ → Env ℕ
more e n = env (e.signals ++ (n ∷ []) ∷ []) e.outside

-- the widths with a signal more for each of some expressions, and the numbers
abbrev pub more_widths : Env ℕ → List ExprTree → Env ℕ
more_widths W [] = W
more_widths W (e ∷ es) = more_widths (more W (width W e)) es

abbrev pub more_numbers : Env ℕ → Env ℕ → List ExprTree → Env ℕ
more_numbers W N [] = N
more_numbers W N (e ∷ es) = more_numbers (more W (width W e)) (more N (value W N e)) es

-- states have rows of their types by the numbers of their rows in the table, from one on; and these hold their values
pub record HasStates (W : Env ℕ) (states : List StateTree) (numbers : ℕ → ℕ) (n : ℕ) : Type 0 where
  pub each : (m : ℕ) (row : StateTree) → slice_get states m ≡ Some row → HasRow W (shape_form row.shape) (numbers (n + m))

pub record HoldsStates (N : Env ℕ) (states : List StateTree) (A : Arch) (numbers : ℕ → ℕ) (n : ℕ) : Type 0 where
  pub long : length A ≡ length states
  pub each : (m : ℕ) (a : StateValue) → slice_get A m ≡ Some a → (numbers (n + m) < length N.signals) × (elements N (numbers (n + m)) ≡ value_numbers a)
