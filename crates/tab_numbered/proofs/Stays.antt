-- More rows change nothing of those before them.
use Rattle.std.proofs.Common.{◌≡◌, ℕ, suc, ◌+◌, List, [], ◌∷◌, length, Option, sym, ◌∙◌, ap, Some}
use Rattle.lola_bits.proofs.Places.{length_more}
use Rattle.lola_flat.specs.Tree.{ExprTree}
use Rattle.lola_flat.specs.Value.{Env}
use Rattle.lola_flat.specs.Value as flat
use Rattle.tab_tree.specs.declared.value.StateValue.{StateValue}
use Rattle.tab_tree.specs.Table.{StateTree}
use Rattle.tab_tree.specs.Names.{Form, shape_form, Names}
use Rattle.tab_tree.specs.Step.{Arch}
use Rattle.tab_numbered.specs.Rows.{HasRowAt, AreRows, HoldsAt, HoldValues, more, more_widths, more_numbers, HasStates, HoldsStates}
use Rattle.tab_numbered.proofs.Rows.{row_stays, held_stays}

pub row_keeps : (es : List ExprTree) (W : Env ℕ) (form : Option Form) (n : Option ℕ) → HasRowAt W form n → HasRowAt (more_widths W es) form n
row_keeps [] W form n has = has
row_keeps (e ∷ es) W form n has = row_keeps es (more W (flat.width W e)) form n (row_stays W (flat.width W e) form n has)

pub held_keeps : (es : List ExprTree) (W N : Env ℕ) (a : Option StateValue) (n : Option ℕ) → HoldsAt N a n → HoldsAt (more_numbers W N es) a n
held_keeps [] W N a n holds = holds
held_keeps (e ∷ es) W N a n holds = held_keeps es (more W (flat.width W e)) (more N (flat.value W N e)) a n (held_stays N (flat.value W N e) a n holds)

pub rows_keep : (es : List ExprTree) (W : Env ℕ) (forms : Names Form) (numbers : Names ℕ) → AreRows W forms numbers → AreRows (more_widths W es) forms numbers
rows_keep es W forms numbers rows = record {
  word = row_keeps es W forms.word numbers.word rows.word;
  count = row_keeps es W forms.count numbers.count rows.count;
  loaded = λ j. row_keeps es W (forms.loaded j) (numbers.loaded j) (rows.loaded j);
  turned = λ j. row_keeps es W (forms.turned j) (numbers.turned j) (rows.turned j);
  named = λ name. row_keeps es W (forms.named name) (numbers.named name) (rows.named name);
  register = λ path. row_keeps es W (forms.register path) (numbers.register path) (rows.register path);
}

pub values_keep : (es : List ExprTree) (W N : Env ℕ) (values : Names StateValue) (numbers : Names ℕ) → HoldValues N values numbers → HoldValues (more_numbers W N es) values numbers
values_keep es W N values numbers holds = record {
  word = held_keeps es W N values.word numbers.word holds.word;
  count = held_keeps es W N values.count numbers.count holds.count;
  loaded = λ j. held_keeps es W N (values.loaded j) (numbers.loaded j) (holds.loaded j);
  turned = λ j. held_keeps es W N (values.turned j) (numbers.turned j) (holds.turned j);
  named = λ name. held_keeps es W N (values.named name) (numbers.named name) (holds.named name);
  register = λ path. held_keeps es W N (values.register path) (numbers.register path) (holds.register path);
}

pub long_keeps : (es : List ExprTree) (W N : Env ℕ) → length N.signals ≡ length W.signals → length (more_numbers W N es).signals ≡ length (more_widths W es).signals
long_keeps [] W N long = long
long_keeps (e ∷ es) W N long =
    long_keeps es (more W (flat.width W e)) (more N (flat.value W N e))
    (length_more N.signals (flat.value W N e ∷ []) ∙ ap suc long ∙ sym (length_more W.signals (flat.width W e ∷ [])))

pub states_keep : (es : List ExprTree) (W : Env ℕ) (states : List StateTree) (numbers : ℕ → ℕ) (n : ℕ) → HasStates W states numbers n → HasStates (more_widths W es) states numbers n
states_keep es W states numbers n has = record { each = λ m row at. row_keeps es W (Some (shape_form row.shape)) (Some (numbers (n + m))) (has.each m row at) }

pub states_held : (es : List ExprTree) (W N : Env ℕ) (states : List StateTree) (A : Arch) (numbers : ℕ → ℕ) (n : ℕ) → HoldsStates N states A numbers n → HoldsStates (more_numbers W N es) states A numbers n
states_held es W N states A numbers n holds = record { long = holds.long; each = λ m a at. held_keeps es W N (Some a) (Some (numbers (n + m))) (holds.each m a at) }
