-- The names of a class stand for values of their forms.
use Rattle.std.proofs.Common.{ℕ, Bool, List, [], ◌∷◌, Option, Some, None}
use Rattle.std.specs.Prelude.{bytes_eq}
use Rattle.lola_bits.specs.declared.vector.Bits.{Bits}
use Rattle.lola_bits.specs.Lists.{AreEach}
use Rattle.lola_tree.specs.Tree.{SourceTree}
use Rattle.lola_width.specs.Said.{NumbersElements}
use Rattle.tab_tree.specs.declared.value.StateValue.{StateValue}
use Rattle.tab_tree.specs.declared.value.StateValue.TheVariants.{One}
use Rattle.tab_tree.specs.Table.{StateTree, InsideTree, TableTree}
use Rattle.tab_tree.specs.Names.{Form, no_names, mapped, shape_form, state_form}
use Rattle.tab_tree.specs.Step.{Arch, Words, counted, field_values, first_of, state_value, link_names}
use Rattle.tab_tree.specs.Placed.{word_width, count_form, word_forms, field_forms, bare_forms, class_forms}
use Rattle.tab_tree.specs.Suits.{IsOf, HasForm, SuitsArch}
use Rattle.obl_def.specs.Forms.{HasFormAt, AreOf}
use Rattle.obl_def.specs.Valuation.{SuitsForm, SuitsWords}
use Rattle.obl_def.proofs.Forms.{rows_of}
use Rattle.obl_def.proofs.Looking.{if_by}

-- names of a class by their forms
first_has : (f g : Option Form) (a c : Option StateValue) → HasFormAt f a → HasFormAt g c → HasFormAt (first_of f g) (first_of a c)
first_has None g None c p q = q
first_has None g (Some a) c p q = absurd p
first_has (Some f) g None c p q = absurd p
first_has (Some f) g (Some a) c p q = p

vector_has : (f : Option Form) (x : Option Bits) → SuitsForm f x → HasFormAt f (mapped One x)
vector_has None None h = tt
vector_has None (Some x) h = absurd h
vector_has (Some f) None h = absurd h
vector_has (Some f) (Some x) h = h

state_has : (rows : List StateTree) (A : Arch) → AreEach (λ (row : StateTree) (a : StateValue). HasForm (shape_form row.shape) a) rows A → (name : List ℕ) → HasFormAt (state_form rows name) (state_value rows A name)
state_has [] A each name = tt
state_has (row ∷ rows) [] each name = absurd each
state_has (row ∷ rows) (a ∷ A) each name = if_by HasFormAt (bytes_eq row.name name) (Some (shape_form row.shape)) (state_form rows name) (Some a) (state_value rows A name) each.0 (state_has rows A each.1 name)

module _ (numbers : (elements bits : ℕ) → NumbersElements elements bits) (S : SourceTree) (T : TableTree) where
  field_has : (i : Bits) → IsOf (word_width S T) i → (name : List ℕ) → HasFormAt (field_forms S T name) (field_values T i name)
  field_has i word name =
      (rows_of numbers T.fields (word_forms S T) (record no_names { word = Some (One i) })
      (record { word = word; count = tt; loaded = λ j. tt; turned = λ j. tt; named = λ name. tt; register = λ path. tt })).named name

  pub class_has : (b : InsideTree) (loads turns : ℕ) (A : Arch) (i : Bits) (m : Words) (counts : Bool) (k : Option ℕ) (forms : List (List ℕ) → Option Form) (registers : List (List ℕ) → Option StateValue) →
      SuitsArch T A → IsOf (word_width S T) i → SuitsWords S T b loads turns m → HasFormAt (count_form counts) (counted k) → ((path : List (List ℕ)) → HasFormAt (forms path) (registers path)) →
      AreOf (class_forms S T b loads turns counts forms) (link_names T b A i m k registers)
  class_has b loads turns A i m counts k forms registers old word words count shown = rows_of numbers b.lets (bare_forms S T b.phases loads turns counts forms) _
      (record {
        word = word;
        count = count;
        loaded = λ j. vector_has _ (m.loaded j) (words.loaded j);
        turned = λ j. vector_has _ (m.turned j) (words.turned j);
        named = λ name. first_has (state_form T.states name) (field_forms S T name) (state_value T.states A name) (field_values T i name) (state_has T.states A old name) (field_has i word name);
        register = shown;
      })
