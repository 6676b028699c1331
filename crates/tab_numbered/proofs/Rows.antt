-- One signal more for each row: the names before it keep their signals, and its own has its form and its value.
use Rattle.std.proofs.Common.{◌≡◌, ℕ, zero, suc, ◌<◌, Bool, true, false, List, [], ◌∷◌, ◌++◌, length, get_or, Option, Some, None, refl, sym, ◌∙◌, ap, subst, arith}
use Rattle.std.specs.Prelude.{if◌then◌else◌, bytes_eq}
use Rattle.lola_bits.specs.declared.vector.Bits.{Bits}
use Rattle.lola_bits.proofs.Places.{length_more}
use Rattle.lola_tree.specs.Tree.{Tree}
use Rattle.lola_tree.specs.Width.{width}
use Rattle.lola_flat.specs.Tree.{ExprTree}
use Rattle.lola_flat.specs.Value.{Env, elements}
use Rattle.lola_flat.specs.Value as flat
use Rattle.lola_renamed.specs.Renamed.{renamed}
use Rattle.lola_renamed.specs.Reads.{FitsIn}
use Rattle.tab_tree.specs.declared.value.StateValue.{StateValue}
use Rattle.tab_tree.specs.declared.value.StateValue.TheVariants.{One}
use Rattle.tab_tree.specs.Table.{LetTree}
use Rattle.tab_tree.specs.Names.{Form, vector_form, Names, mapped, scope_by, table_vector, table_number, or_empty, with_name, with_rows, with_forms}
use Rattle.obl_def.specs.Forms.{HasFormAt, AreOf}
use Rattle.tab_numbered.specs.Numbered.{numbered, expr_over, row_exprs, with_numbers}
use Rattle.tab_numbered.specs.Rows.{HasRowAt, AreRows, HoldsAt, HoldValues, more, more_widths, more_numbers}

-- a signal that stands before another keeps its elements
get_front : (xs ys : List (List ℕ)) (n : ℕ) → n < length xs → get_or (xs ++ ys) n [] ≡ get_or xs n []
get_front [] ys n within = absurd (omega arith)
get_front (x ∷ xs) ys zero within = refl
get_front (x ∷ xs) ys (suc n) within = get_front xs ys n (omega arith)

get_last : (xs : List (List ℕ)) (y : List ℕ) → get_or (xs ++ y ∷ []) (length xs) [] ≡ y
get_last [] y = refl
get_last (x ∷ xs) y = get_last xs y

inside_more : (xs : List (List ℕ)) (y : List ℕ) (n : ℕ) → n < length xs → n < length (xs ++ y ∷ [])
inside_more xs y n within = let l = length_more xs y in omega arith

pub row_stays : (W : Env ℕ) (y : ℕ) (form : Option Form) (n : Option ℕ) → HasRowAt W form n → HasRowAt (more W y) form n
row_stays W y None n has = tt
row_stays W y (Some form) None has = absurd has
row_stays W y (Some form) (Some n) has = record {
  inside = inside_more W.signals (y ∷ []) n has.inside;
  is = get_front W.signals ((y ∷ []) ∷ []) n has.inside ∙ has.is;
  wide = has.wide;
}

pub held_stays : (N : Env ℕ) (y : ℕ) (a : Option StateValue) (n : Option ℕ) → HoldsAt N a n → HoldsAt (more N y) a n
held_stays N y None n holds = tt
held_stays N y (Some a) None holds = absurd holds
held_stays N y (Some a) (Some n) holds = (inside_more N.signals (y ∷ []) n holds.0, get_front N.signals ((y ∷ []) ∷ []) n holds.0 ∙ holds.1)

-- the row's own signal
own_row : (W : Env ℕ) (e : ExprTree) (wide : Option ℕ) → ((w : ℕ) → wide ≡ Some w → FitsIn W e w) → HasRowAt (more W (flat.width W e)) (mapped vector_form wide) (Some (length W.signals))
own_row W e None fits = tt
own_row W e (Some w) fits =
    let f = fits w refl in
    record {
      inside = let l = length_more W.signals (flat.width W e ∷ []) in omega arith;
      is = get_last W.signals (flat.width W e ∷ []) ∙ ap (λ (k : ℕ). k ∷ []) f.is;
      wide = f.wide;
    }

own_held : (N : Env ℕ) (number : ℕ) (wide : Option ℕ) (x : Option Bits) → HasFormAt (mapped vector_form wide) (mapped One x) → ((w : ℕ) → wide ≡ Some w → number ≡ (or_empty x).value) →
    HoldsAt (more N number) (mapped One x) (Some (length N.signals))
own_held N number wide None has is = tt
own_held N number None (Some x) has is = absurd has
own_held N number (Some w) (Some x) has is = (let l = length_more N.signals (number ∷ []) in omega arith, get_last N.signals (number ∷ []) ∙ ap (λ (k : ℕ). k ∷ []) (is w refl))

pub chosen : {X Y : Type 0} (R : Option X → Option Y → Type 0) (b : Bool) (x u : Option X) (y v : Option Y) → R x y → R u v → R (if b then x else u) (if b then y else v)
chosen R true x u y v p q = p
chosen R false x u y v p q = q

-- the laws that this stands on
abbrev pub Fitting : Type 0
Fitting = (W : Env ℕ) (forms : Names Form) (numbers : Names ℕ) (e : Tree) (w : ℕ) → AreRows W forms numbers → width (scope_by forms) e ≡ Some w → FitsIn W (renamed (numbered numbers) e) w

abbrev pub Meaning : Type 0
Meaning = (W N : Env ℕ) (forms : Names Form) (values : Names StateValue) (numbers : Names ℕ) (e : Tree) (w : ℕ) → AreRows W forms numbers → AreOf forms values → HoldValues N values numbers →
    width (scope_by forms) e ≡ Some w → flat.value W N (renamed (numbered numbers) e) ≡ table_number values e

abbrev pub HaveVectors : Type 0
HaveVectors = (forms : Names Form) (names : Names StateValue) → AreOf forms names → (e : Tree) → HasFormAt (mapped vector_form (width (scope_by forms) e)) (mapped One (table_vector names e))

abbrev pub RowsAre : Type 0
RowsAre = (forms : Names Form) (names : Names StateValue) (rows : List LetTree) → AreOf forms names → AreOf (with_forms rows forms) (with_rows rows names)

module _ (fitting : Fitting) (meaning : Meaning) (vectors : HaveVectors) (rows_are : RowsAre) where
  row_behind : (W : Env ℕ) (forms : Names Form) (numbers : Names ℕ) → AreRows W forms numbers → (row : LetTree) →
      AreRows (more W (flat.width W (expr_over numbers row))) (with_name forms row.name (mapped vector_form (width (scope_by forms) row.value))) (with_name numbers row.name (Some (length W.signals)))
  row_behind W forms numbers rows row =
      let y = flat.width W (expr_over numbers row) in
      record {
        word = row_stays W y forms.word numbers.word rows.word;
        count = row_stays W y forms.count numbers.count rows.count;
        loaded = λ j. row_stays W y (forms.loaded j) (numbers.loaded j) (rows.loaded j);
        turned = λ j. row_stays W y (forms.turned j) (numbers.turned j) (rows.turned j);
        named = λ name. chosen (HasRowAt (more W y)) (bytes_eq row.name name) (mapped vector_form (width (scope_by forms) row.value)) (forms.named name) (Some (length W.signals)) (numbers.named name)
            (own_row W (expr_over numbers row) (width (scope_by forms) row.value) (λ w e. fitting W forms numbers row.value w rows e)) (row_stays W y (forms.named name) (numbers.named name) (rows.named name));
        register = λ path. row_stays W y (forms.register path) (numbers.register path) (rows.register path);
      }

  held_behind : (W N : Env ℕ) (forms : Names Form) (values : Names StateValue) (numbers : Names ℕ) → AreRows W forms numbers → AreOf forms values → HoldValues N values numbers → (row : LetTree) →
      HoldValues (more N (flat.value W N (expr_over numbers row))) (with_name values row.name (mapped One (table_vector values row.value))) (with_name numbers row.name (Some (length N.signals)))
  held_behind W N forms values numbers rows are holds row =
      let y = flat.value W N (expr_over numbers row) in
      record {
        word = held_stays N y values.word numbers.word holds.word;
        count = held_stays N y values.count numbers.count holds.count;
        loaded = λ j. held_stays N y (values.loaded j) (numbers.loaded j) (holds.loaded j);
        turned = λ j. held_stays N y (values.turned j) (numbers.turned j) (holds.turned j);
        named = λ name. chosen (HoldsAt (more N y)) (bytes_eq row.name name) (mapped One (table_vector values row.value)) (values.named name) (Some (length N.signals)) (numbers.named name)
            (own_held N y (width (scope_by forms) row.value) (table_vector values row.value) (vectors forms values are row.value) (λ w e. meaning W N forms values numbers row.value w rows are holds e))
            (held_stays N y (values.named name) (numbers.named name) (holds.named name));
        register = λ path. held_stays N y (values.register path) (numbers.register path) (holds.register path);
      }

  pub record Both (W N : Env ℕ) (forms : Names Form) (values : Names StateValue) (numbers : Names ℕ) : Type 0 where
    pub rows : AreRows W forms numbers
    pub are : AreOf forms values
    pub holds : HoldValues N values numbers
    pub long : length N.signals ≡ length W.signals

  one_behind : (W N : Env ℕ) (forms : Names Form) (values : Names StateValue) (numbers : Names ℕ) → Both W N forms values numbers → (row : LetTree) →
      Both (more W (flat.width W (expr_over numbers row))) (more N (flat.value W N (expr_over numbers row))) (with_name forms row.name (mapped vector_form (width (scope_by forms) row.value)))
      (with_name values row.name (mapped One (table_vector values row.value))) (with_name numbers row.name (Some (length W.signals)))
  one_behind W N forms values numbers both row = record {
    rows = row_behind W forms numbers both.rows row;
    are = rows_are forms values (row ∷ []) both.are;
    holds = subst (λ (n : ℕ). HoldValues (more N (flat.value W N (expr_over numbers row))) (with_name values row.name (mapped One (table_vector values row.value))) (with_name numbers row.name (Some n))) both.long
        (held_behind W N forms values numbers both.rows both.are both.holds row);
    long = length_more N.signals (flat.value W N (expr_over numbers row) ∷ []) ∙ ap suc both.long ∙ sym (length_more W.signals (flat.width W (expr_over numbers row) ∷ []));
  }

  pub rows_behind : (rows : List LetTree) (W : Env ℕ) (forms : Names Form) (numbers : Names ℕ) (n : ℕ) → n ≡ length W.signals → AreRows W forms numbers → AreRows (more_widths W (row_exprs rows numbers n)) (with_forms rows forms) (with_numbers rows numbers n)
  rows_behind [] W forms numbers n is are = are
  rows_behind (row ∷ rows) W forms numbers n is are =
      rows_behind rows (more W (flat.width W (expr_over numbers row))) (with_name forms row.name (mapped vector_form (width (scope_by forms) row.value))) (with_name numbers row.name (Some n)) (suc n)
      (ap suc is ∙ sym (length_more W.signals (flat.width W (expr_over numbers row) ∷ [])))
      (subst (λ (k : ℕ). AreRows (more W (flat.width W (expr_over numbers row))) (with_name forms row.name (mapped vector_form (width (scope_by forms) row.value))) (with_name numbers row.name (Some k))) (sym is)
      (row_behind W forms numbers are row))

  pub all_behind : (rows : List LetTree) (W N : Env ℕ) (forms : Names Form) (values : Names StateValue) (numbers : Names ℕ) (n : ℕ) → n ≡ length W.signals → Both W N forms values numbers →
      Both (more_widths W (row_exprs rows numbers n)) (more_numbers W N (row_exprs rows numbers n)) (with_forms rows forms) (with_rows rows values) (with_numbers rows numbers n)
  all_behind [] W N forms values numbers n is both = both
  all_behind (row ∷ rows) W N forms values numbers n is both =
      all_behind rows (more W (flat.width W (expr_over numbers row))) (more N (flat.value W N (expr_over numbers row))) (with_name forms row.name (mapped vector_form (width (scope_by forms) row.value)))
      (with_name values row.name (mapped One (table_vector values row.value))) (with_name numbers row.name (Some n)) (suc n) (ap suc is ∙ sym (length_more W.signals (flat.width W (expr_over numbers row) ∷ [])))
      (subst (λ (k : ℕ). Both (more W (flat.width W (expr_over numbers row))) (more N (flat.value W N (expr_over numbers row))) (with_name forms row.name (mapped vector_form (width (scope_by forms) row.value)))
      (with_name values row.name (mapped One (table_vector values row.value))) (with_name numbers row.name (Some k))) (sym is) (one_behind W N forms values numbers both row))
