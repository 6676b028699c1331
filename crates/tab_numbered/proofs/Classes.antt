-- The names of a class have rows behind those of its fields and its LETs.
use Rattle.std.proofs.Common.{◌≡◌, ℕ, suc, ◌+◌, ◌<◌, Bool, true, false, List, [], ◌∷◌, length, Option, Some, refl, subst, arith}
use Rattle.std.specs.Prelude.{if◌then◌else◌, bytes_eq}
use Rattle.lola_bits.specs.declared.vector.Bits.{Bits}
use Rattle.lola_flat.specs.Value.{Env, elements}
use Rattle.lola_tree.specs.Tree.{SourceTree}
use Rattle.tab_tree.specs.declared.value.StateValue.{StateValue}
use Rattle.tab_tree.specs.declared.value.StateValue.TheVariants.{One}
use Rattle.tab_tree.specs.Table.{StateTree, LetTree, InsideTree, TableTree}
use Rattle.tab_tree.specs.Names.{Form, shape_form, state_form, Names, no_names, with_forms, with_rows}
use Rattle.tab_tree.specs.Step.{Arch, Words, state_value, first_of, link_names, field_values}
use Rattle.tab_tree.specs.Placed.{word_forms, field_forms, bare_forms, class_forms}
use Rattle.obl_def.specs.Forms.{AreOf}
use Rattle.tab_numbered.specs.Numbered.{row_exprs, with_numbers}
use Rattle.tab_numbered.specs.Rows.{value_numbers, HasRow, HasRowAt, AreRows, HoldsAt, HoldValues, more_widths, more_numbers, HasStates, HoldsStates}
use Rattle.tab_numbered.specs.Classes.{state_number, Given, word_numbers, field_numbers, bare_numbers, field_exprs, class_numbers}
use Rattle.tab_numbered.specs.Given.{AreGivenRows, HoldGiven, bare_names, field_widths, class_widths, class_holds}
use Rattle.tab_numbered.proofs.Stays.{row_keeps, held_keeps, states_keep, states_held, long_keeps}

-- the first of two that are there
first_chosen : {X Y : Type 0} (R : Option X → Option Y → Type 0) (b : Bool) (x u f : Option X) (y v g : Option Y) → R (first_of x f) (first_of y g) → R (first_of u f) (first_of v g) →
    R (first_of (if b then x else u) f) (first_of (if b then y else v) g)
first_chosen R true x u f y v g p q = p
first_chosen R false x u f y v g p q = q

tail_has : (W : Env ℕ) (row : StateTree) (rows : List StateTree) (numbers : ℕ → ℕ) (n : ℕ) → HasStates W (row ∷ rows) numbers n → HasStates W rows numbers (suc n)
tail_has W row rows numbers n has = record {
  each = λ m other at. let e : n + suc m ≡ suc n + m = omega arith in subst (λ (k : ℕ). HasRow W (shape_form other.shape) (numbers k)) e (has.each (suc m) other at);
}

named_row : (W : Env ℕ) (rows : List StateTree) (numbers : ℕ → ℕ) (n : ℕ) → HasStates W rows numbers n → (name : List ℕ) (f : Option Form) (g : Option ℕ) → HasRowAt W f g →
    HasRowAt W (first_of (state_form rows name) f) (first_of (state_number rows numbers n name) g)
named_row W [] numbers n has name f g rest = rest
named_row W (row ∷ rows) numbers n has name f g rest =
    let e : n + 0 ≡ n = omega arith in
    first_chosen (HasRowAt W) (bytes_eq row.name name) (Some (shape_form row.shape)) (state_form rows name) f (Some (numbers n)) (state_number rows numbers (suc n) name) g
    (subst (λ (k : ℕ). HasRow W (shape_form row.shape) (numbers k)) e (has.each 0 row refl))
    (named_row W rows numbers (suc n) (tail_has W row rows numbers n has) name f g rest)

tail_holds : (N : Env ℕ) (row : StateTree) (rows : List StateTree) (a : StateValue) (A : Arch) (numbers : ℕ → ℕ) (n : ℕ) → HoldsStates N (row ∷ rows) (a ∷ A) numbers n → HoldsStates N rows A numbers (suc n)
tail_holds N row rows a A numbers n holds = record {
  long = let l : suc (length A) ≡ suc (length rows) = holds.long in omega arith;
  each = λ m other at. let e : n + suc m ≡ suc n + m = omega arith in
      subst (λ (k : ℕ). (numbers k < length N.signals) × (elements N (numbers k) ≡ value_numbers other)) e (holds.each (suc m) other at);
}

named_held : (N : Env ℕ) (rows : List StateTree) (A : Arch) (numbers : ℕ → ℕ) (n : ℕ) → HoldsStates N rows A numbers n → (name : List ℕ) (f : Option StateValue) (g : Option ℕ) → HoldsAt N f g →
    HoldsAt N (first_of (state_value rows A name) f) (first_of (state_number rows numbers n name) g)
named_held N [] A numbers n holds name f g rest = rest
named_held N (row ∷ rows) [] numbers n holds name f g rest = absurd (let l : 0 ≡ suc (length rows) = holds.long in omega arith)
named_held N (row ∷ rows) (a ∷ A) numbers n holds name f g rest =
    let e : n + 0 ≡ n = omega arith in
    first_chosen (HoldsAt N) (bytes_eq row.name name) (Some a) (state_value rows A name) f (Some (numbers n)) (state_number rows numbers (suc n) name) g
    (subst (λ (k : ℕ). (numbers k < length N.signals) × (elements N (numbers k) ≡ value_numbers a)) e (holds.each 0 a refl))
    (named_held N rows A numbers (suc n) (tail_holds N row rows a A numbers n holds) name f g rest)

-- the laws on rows
abbrev pub RowsBehind : Type 0
RowsBehind = (W : Env ℕ) (forms : Names Form) (numbers : Names ℕ) (rows : List LetTree) → AreRows W forms numbers →
    AreRows (more_widths W (row_exprs rows numbers (length W.signals))) (with_forms rows forms) (with_numbers rows numbers (length W.signals))

abbrev pub ValuesBehind : Type 0
ValuesBehind = (W N : Env ℕ) (forms : Names Form) (values : Names StateValue) (numbers : Names ℕ) (rows : List LetTree) → AreRows W forms numbers → AreOf forms values → HoldValues N values numbers → length N.signals ≡ length W.signals →
    HoldValues (more_numbers W N (row_exprs rows numbers (length W.signals))) (with_rows rows values) (with_numbers rows numbers (length W.signals))

module _ (rows_behind : RowsBehind) (S : SourceTree) (T : TableTree) (b : InsideTree) (loads turns : ℕ) (counts : Bool) (registers : List (List ℕ) → Option Form) (W : Env ℕ) (g : Given) (given : AreGivenRows S T b loads turns counts registers W g) where
  abbrev fields_from : ℕ
  fields_from = length W.signals

  abbrev field_table : Env ℕ
  field_table = field_widths T g W

  abbrev lets_from : ℕ
  lets_from = length field_table.signals

  word_rows : AreRows W (word_forms S T) (word_numbers g)
  word_rows = record { word = given.word; count = tt; loaded = λ j. tt; turned = λ j. tt; named = λ name. tt; register = λ path. tt }

  fields : (name : List ℕ) → HasRowAt field_table (field_forms S T name) (field_numbers T g fields_from name)
  fields name = (rows_behind W (word_forms S T) (word_numbers g) T.fields word_rows).named name

  bare_rows : AreRows field_table (bare_forms S T b.phases loads turns counts registers) (bare_numbers T g fields_from)
  bare_rows =
      let es = field_exprs T g fields_from in
      let F = bare_forms S T b.phases loads turns counts registers in
      record {
        word = row_keeps es W F.word (Some g.word) given.word;
        count = row_keeps es W F.count g.count given.count;
        loaded = λ j. row_keeps es W (F.loaded j) (g.loaded j) (given.loaded j);
        turned = λ j. row_keeps es W (F.turned j) (g.turned j) (given.turned j);
        named = λ name. named_row field_table T.states g.states 0 (states_keep es W T.states g.states 0 given.states) name (field_forms S T name) (field_numbers T g fields_from name) (fields name);
        register = λ path. row_keeps es W (registers path) (g.register path) (given.register path);
      }

  pub class_rows : AreRows (class_widths T b g W) (class_forms S T b loads turns counts registers) (class_numbers T b g fields_from lets_from)
  class_rows = rows_behind field_table (bare_forms S T b.phases loads turns counts registers) (bare_numbers T g fields_from) b.lets bare_rows

  module _ (values_behind : ValuesBehind) (shown : List (List ℕ) → Option StateValue) (A : Arch) (i : Bits) (m : Words) (k : Option ℕ) (N : Env ℕ)
      (bare_are : AreOf (bare_forms S T b.phases loads turns counts registers) (bare_names T A i m k shown)) (word_is : AreOf (word_forms S T) (record no_names { word = Some (One i) }))
      (holds : HoldGiven T A i m k shown N g) (long : length N.signals ≡ length W.signals) where
    abbrev field_held : Env ℕ
    field_held = more_numbers W N (field_exprs T g fields_from)

    word_held : HoldValues N (record no_names { word = Some (One i) }) (word_numbers g)
    word_held = record { word = holds.word; count = tt; loaded = λ j. tt; turned = λ j. tt; named = λ name. tt; register = λ path. tt }

    fields_held : (name : List ℕ) → HoldsAt field_held (field_values T i name) (field_numbers T g fields_from name)
    fields_held name = (values_behind W N (word_forms S T) (record no_names { word = Some (One i) }) (word_numbers g) T.fields word_rows word_is word_held long).named name

    bare_held : HoldValues field_held (bare_names T A i m k shown) (bare_numbers T g fields_from)
    bare_held =
        let es = field_exprs T g fields_from in
        let V = bare_names T A i m k shown in
        record {
          word = held_keeps es W N (Some (One i)) (Some g.word) holds.word;
          count = held_keeps es W N V.count g.count holds.count;
          loaded = λ j. held_keeps es W N (V.loaded j) (g.loaded j) (holds.loaded j);
          turned = λ j. held_keeps es W N (V.turned j) (g.turned j) (holds.turned j);
          named = λ name. named_held field_held T.states A g.states 0 (states_held es W N T.states A g.states 0 holds.states) name (field_values T i name) (field_numbers T g fields_from name) (fields_held name);
          register = λ path. held_keeps es W N (shown path) (g.register path) (holds.register path);
        }

    pub class_held : HoldValues (class_holds T b g W N) (link_names T b A i m k shown) (class_numbers T b g fields_from lets_from)
    class_held = values_behind field_table field_held (bare_forms S T b.phases loads turns counts registers) (bare_names T A i m k shown) (bare_numbers T g fields_from) b.lets bare_rows bare_are bare_held (long_keeps (field_exprs T g fields_from) W N long)
