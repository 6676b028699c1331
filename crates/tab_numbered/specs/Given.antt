-- What a class is given, as rows: the states, the word, loaded words, accumulators and the count, and `@` names, each
-- with its form and its value; and the rows behind those of fields and LETs.
use Rattle.std.specs.Prelude.{◌≡◌, ℕ, ◌<◌, Bool, List, [], ◌∷◌, length, Option, Some}
use Rattle.lola_bits.specs.declared.vector.Bits.{Bits}
use Rattle.lola_flat.specs.Value.{Env, elements}
use Rattle.lola_tree.specs.Tree.{SourceTree}
use Rattle.tab_tree.specs.declared.value.StateValue.{StateValue}
use Rattle.tab_tree.specs.declared.value.StateValue.TheVariants.{One}
use Rattle.tab_tree.specs.Table.{InsideTree, TableTree}
use Rattle.tab_tree.specs.Names.{Form, vector_form, Names, mapped}
use Rattle.tab_tree.specs.Step.{Arch, Words, state_value, first_of, counted, field_values}
use Rattle.tab_tree.specs.Placed.{word_width, phase_at, loaded_form, turned_form, before, count_form}
use Rattle.tab_numbered.specs.Rows.{HasRow, HasRowAt, HoldsAt, more_widths, more_numbers, HasStates, HoldsStates}
use Rattle.tab_numbered.specs.Classes.{Given, field_exprs, let_exprs}

-- all that a class is given has rows of its forms
pub record AreGivenRows (S : SourceTree) (T : TableTree) (b : InsideTree) (loads turns : ℕ) (counts : Bool) (registers : List (List ℕ) → Option Form) (W : Env ℕ) (g : Given) : Type 0 where
  pub word : HasRow W (vector_form (word_width S T)) g.word
  pub states : HasStates W T.states g.states 0
  pub loaded : (j : ℕ) → HasRowAt W (before loads (λ k. loaded_form S T (phase_at b.phases k)) j) (g.loaded j)
  pub turned : (j : ℕ) → HasRowAt W (before turns (λ k. turned_form (phase_at b.phases k)) j) (g.turned j)
  pub count : HasRowAt W (count_form counts) g.count
  pub register : (path : List (List ℕ)) → HasRowAt W (registers path) (g.register path)

-- they hold its values
pub record HoldGiven (T : TableTree) (A : Arch) (i : Bits) (m : Words) (k : Option ℕ) (shown : List (List ℕ) → Option StateValue) (N : Env ℕ) (g : Given) : Type 0 where
  pub word : (g.word < length N.signals) × (elements N g.word ≡ i.value ∷ [])
  pub states : HoldsStates N T.states A g.states 0
  pub loaded : (j : ℕ) → HoldsAt N (mapped One (m.loaded j)) (g.loaded j)
  pub turned : (j : ℕ) → HoldsAt N (mapped One (m.turned j)) (g.turned j)
  pub count : HoldsAt N (counted k) g.count
  pub register : (path : List (List ℕ)) → HoldsAt N (shown path) (g.register path)

-- the names of a class but for its LETs, as an instruction has them
abbrev pub bare_names : TableTree → Arch → Bits → Words → Option ℕ → (List (List ℕ) → Option StateValue) → Names StateValue
bare_names T A i m k shown = record {
  word = Some (One i);
  count = counted k;
  loaded = λ j. mapped One (m.loaded j);
  turned = λ j. mapped One (m.turned j);
  named = λ name. first_of (state_value T.states A name) (field_values T i name);
  register = shown;
}

-- widths and numbers behind the rows of the fields, and behind those of the LETs
abbrev pub field_widths : TableTree → Given → Env ℕ → Env ℕ
field_widths T g W = more_widths W (field_exprs T g (length W.signals))

abbrev pub class_widths : TableTree → InsideTree → Given → Env ℕ → Env ℕ
class_widths T b g W = more_widths (field_widths T g W) (let_exprs T b g (length W.signals) (length (field_widths T g W).signals))

abbrev pub class_holds : TableTree → InsideTree → Given → (W N : Env ℕ) → Env ℕ
class_holds T b g W N =
    more_numbers (field_widths T g W) (more_numbers W N (field_exprs T g (length W.signals))) (let_exprs T b g (length W.signals) (length (field_widths T g W).signals))
