-- What a state shows, over the rows of its registers.
use Rattle.std.proofs.Common.{◌≡◌, ℕ, zero, suc, ◌+◌, ◌<◌, ◌≤◌, Bool, true, false, List, [], ◌∷◌, map, flat_map, Option, Some, None, refl, sym, ◌∙◌, ap, ap₂, subst, arith}
use Rattle.std.specs.Prelude.{if◌then◌else◌}
use Rattle.std.specs.List.{AllByRecursion}
use Rattle.lola_bits.proofs.All.{all_front, all_back}
use Rattle.lola_bits.proofs.Options.{some_same}
use Rattle.lola_flat.specs.Value.{Env}
use Rattle.lola_flat.specs.Value as flat
use Rattle.lola_tree.specs.declared.named.Count.TheVariants.{Fixed, Const}
use Rattle.lola_tree.specs.declared.named.Shape.{Shape}
use Rattle.lola_tree.specs.declared.named.Shape.TheVariants.{Vector, Array}
use Rattle.lola_tree.specs.Tree.{Tree, number, whole, bit, slice, index, concat, negation, binary, choice, SourceTree}
use Rattle.lola_tree.specs.Names.{ref_name}
use Rattle.lola_tree.specs.Width.{width}
use Rattle.lola_tree.specs.Value.{Values, or_zero}
use Rattle.lola_unfold.specs.Flat.{numbers_of}
use Rattle.lola_renamed.specs.Reads.{FitsIn}
use Rattle.tab_tree.specs.declared.value.StateValue.{StateValue}
use Rattle.tab_tree.specs.declared.value.StateValue.TheVariants.{Many}
use Rattle.tab_tree.specs.Table.{StateTree, TableTree}
use Rattle.tab_tree.specs.Names.{Form, array_form, bare_name, look, scope_by, nth_number, number_at, table_number, fixed, shape_form, form_element}
use Rattle.tab_tree.specs.Registers.{elements, value_by, registers_at, source_forms, source_names}
use Rattle.tab_tree.specs.Headline.{element_shown, shown_by, word_shown, shown_word}
use Rattle.tab_tree.specs.Placed.{Placed, state_placed, code_width, word_width, role_width, given_placed}
use Rattle.tab_tree.specs.Fits.{IsFitting, IsWhole, ShowsArray, HasWidth, HasElements, ArrayHasWidth, IsFormWidth}
use Rattle.tab_numbered.specs.Rows.{number_of, value_numbers, HasRow, HasRowAt, AreRows, HoldsAt, HoldValues}
use Rattle.obl_rows.specs.Registers.{registers_from}
use Rattle.obl_rows.specs.Shown.{over_registers, word_expr, array_row, ShowsFit, ShownBy, ShowsRow}

abbrev Wide : Placed → Type 0
Wide e = HasWidth e.wanted (width (scope_by e.names) e.expr)

wanted_width : (wanted o : Option ℕ) → HasWidth wanted o → (w : ℕ) × (o ≡ Some w)
wanted_width None None h = absurd (h refl)
wanted_width None (Some w) h = (w, refl)
wanted_width (Some w) o h = (w, h)

-- the elements of an array by its own numbers
nth_is : (count n w : ℕ) (f : ℕ → ℕ) (k : ℕ) → k < count → nth_number (elements count n w f) k ≡ f (n + k)
nth_is zero n w f k within = absurd (omega arith)
nth_is (suc count) n w f zero within = let e : n ≡ n + 0 = omega arith in ap f e
nth_is (suc count) n w f (suc k) within = let e : suc n + k ≡ n + suc k = omega arith in nth_is count (suc n) w f k (omega arith) ∙ ap f e

same_elements : (count n w v : ℕ) (f g : ℕ → ℕ) → ((k : ℕ) → n ≤ k → k < n + count → f k ≡ g k) → map number_of (elements count n w f) ≡ map number_of (elements count n v g)
same_elements zero n w v f g same = refl
same_elements (suc count) n w v f g same =
    ap₂ (λ (x : ℕ) (l : List ℕ). x ∷ l) (same n (omega arith) (omega arith)) (same_elements count (suc n) w v f g (λ k low high. same k (omega arith) (omega arith)))

module _ (S : SourceTree) (W : Env ℕ) (from : ℕ) (rows : AreRows W (source_forms S) (registers_from S from))
    (fits_law : (e : Tree) (w : ℕ) → width (scope_by (source_forms S)) e ≡ Some w → FitsIn W (over_registers S from e) w) where
  word_by : (o : Option Tree) (wanted : Option ℕ) → AllByRecursion Wide (given_placed o (source_forms S) wanted) → FitsIn W (word_expr S from o) (code_width S o)
  word_by None wanted wide = record { is = refl; fits = ((omega arith, omega arith), omega arith); wide = (omega arith, omega arith) }
  word_by (Some e) wanted wide =
      let w = wanted_width wanted (width (scope_by (source_forms S)) e) wide.0 in
      subst (FitsIn W (over_registers S from e)) (sym (ap or_zero w.1)) (fits_law e w.0 w.1)

  -- an array names registers
  array_has : (e : Tree) (count w : ℕ) → IsWhole S e count → HasElements S e w → HasRow W (array_form count w) (array_row S from e)
  array_has (whole of) count w is has =
      let same : is.1.0 ≡ w = some_same is.1.0 w (sym (ap form_element is.1.1) ∙ has) in
      let row : HasRowAt W (Some (array_form count is.1.0)) (Some (from + numbers_of S of.path)) = subst (λ (o : Option Form). HasRowAt W o (Some (from + numbers_of S of.path))) is.1.1 (rows.register of.path) in
      subst (λ (b : Bool). HasRow W (array_form count w) (or_zero (if b then Some (from + numbers_of S of.path) else bare_name (registers_from S from) (ref_name of)))) (sym is.0)
      (subst (λ (v : ℕ). HasRow W (array_form count v) (from + numbers_of S of.path)) same row)
  array_has (number value written at) count w is has = absurd is
  array_has (bit of place at) count w is has = absurd is
  array_has (slice of high low at) count w is has = absurd is
  array_has (index of place at) count w is has = absurd is
  array_has (concat parts at) count w is has = absurd is
  array_has (negation arg at) count w is has = absurd is
  array_has (binary op left right at) count w is has = absurd is
  array_has (choice test first second at) count w is has = absurd is

  state_fits : (shape : Shape) (e : Tree) → AllByRecursion Wide (state_placed S shape e) → ShowsArray S shape e → IsFormWidth (shape_form shape) → ArrayHasWidth S shape e → ShowsFit S W from shape e
  state_fits (Vector (Fixed n at)) e wide shows sized are = fits_law e n wide.0
  state_fits (Vector (Const name)) e wide shows sized are = absurd (let f : false ≡ true = sized in cc)
  state_fits (Array c w) e wide shows sized are = array_has e (or_zero (fixed c)) (or_zero (fixed w)) shows are

  each_fits : (states : List StateTree) → AllByRecursion Wide (flat_map (λ (row : StateTree). state_placed S row.shape row.shown) states) → AllByRecursion (λ (row : StateTree). ShowsArray S row.shape row.shown) states →
      AllByRecursion (λ (row : StateTree). IsFormWidth (shape_form row.shape)) states → AllByRecursion (λ (row : StateTree). ArrayHasWidth S row.shape row.shown) states → AllByRecursion (λ (row : StateTree). ShowsFit S W from row.shape row.shown) states
  each_fits [] wide shows sized are = tt
  each_fits (row ∷ states) wide shows sized are =
      let behind = flat_map (λ (row : StateTree). state_placed S row.shape row.shown) states in (
        state_fits row.shape row.shown (all_front Wide (state_placed S row.shape row.shown) behind wide) shows.0 sized.0 are.0,
        each_fits states (all_back Wide (state_placed S row.shape row.shown) behind wide) shows.1 sized.1 are.1,
      )

  module _ (T : TableTree) (fit : IsFitting S T) where
    code_wide : AllByRecursion Wide (given_placed T.roles.code (source_forms S) (role_width S T.roles.fetched))
    code_wide = all_front Wide (given_placed T.roles.code (source_forms S) (role_width S T.roles.fetched)) _ fit.widths.exprs

    states_wide : AllByRecursion Wide (flat_map (λ (row : StateTree). state_placed S row.shape row.shown) T.states)
    states_wide =
        all_front Wide (flat_map (λ (row : StateTree). state_placed S row.shape row.shown) T.states) _ (all_back Wide (given_placed T.roles.code (source_forms S) (role_width S T.roles.fetched)) _ fit.widths.exprs)

    pub word_fits : FitsIn W (word_expr S from T.roles.code) (word_width S T)
    word_fits = word_by T.roles.code (role_width S T.roles.fetched) code_wide

    pub states_fit : AllByRecursion (λ (row : StateTree). ShowsFit S W from row.shape row.shown) T.states
    states_fit = each_fits T.states states_wide fit.kinds.arrays fit.widths.states fit.widths.arrays

  module _ (N : Env ℕ) (s : Values) (holds : HoldValues N (source_names S s) (registers_from S from))
      (value_law : (e : Tree) (w : ℕ) → width (scope_by (source_forms S)) e ≡ Some w → flat.value W N (over_registers S from e) ≡ table_number (source_names S s) e) where
    value_by_word : (o : Option Tree) (wanted : Option ℕ) → AllByRecursion Wide (given_placed o (source_forms S) wanted) → flat.value W N (word_expr S from o) ≡ (word_shown S o s).value
    value_by_word None wanted wide = refl
    value_by_word (Some e) wanted wide = let w = wanted_width wanted (width (scope_by (source_forms S)) e) wide.0 in value_law e w.0 w.1

    array_holds : (e : Tree) (count w : ℕ) → IsWhole S e count → flat.elements N (array_row S from e) ≡ map number_of (elements count 0 w (element_shown e (source_names S s)))
    array_holds (whole of) count w is =
        let f = s of.path in
        let at : HoldsAt N (Some (Many (elements count 0 is.1.0 f))) (Some (from + numbers_of S of.path)) = subst (λ (o : Option Form). HoldsAt N (value_by o f) (Some (from + numbers_of S of.path))) is.1.1 (holds.register of.path) in
        let looked : look (source_names S s) of ≡ Some (Many (elements count 0 is.1.0 f)) =
        ap (λ (b : Bool). if b then registers_at S s of.path else bare_name (source_names S s) (ref_name of)) is.0 ∙ ap (λ (o : Option Form). value_by o f) is.1.1 in
        subst (λ (b : Bool). flat.elements N (or_zero (if b then Some (from + numbers_of S of.path) else bare_name (registers_from S from) (ref_name of))) ≡ map number_of (elements count 0 w (element_shown (whole of) (source_names S s)))) (sym is.0)
        (at.1 ∙ same_elements count 0 is.1.0 w f (element_shown (whole of) (source_names S s))
        (λ k low high. let e : 0 + k ≡ k = omega arith in sym (ap (λ (o : Option StateValue). number_at o k) looked ∙ nth_is count 0 is.1.0 f k (omega arith) ∙ ap f e)))
    array_holds (number value written at) count w is = absurd is
    array_holds (bit of place at) count w is = absurd is
    array_holds (slice of high low at) count w is = absurd is
    array_holds (index of place at) count w is = absurd is
    array_holds (concat parts at) count w is = absurd is
    array_holds (negation arg at) count w is = absurd is
    array_holds (binary op left right at) count w is = absurd is
    array_holds (choice test first second at) count w is = absurd is

    state_holds : (shape : Shape) (e : Tree) → AllByRecursion Wide (state_placed S shape e) → ShowsArray S shape e → ShownBy S W N from shape e (value_numbers (shown_by shape e (source_names S s)))
    state_holds (Vector c) e wide shows = let w = wanted_width (fixed c) (width (scope_by (source_forms S)) e) wide.0 in ap (λ (n : ℕ). n ∷ []) (value_law e w.0 w.1)
    state_holds (Array c w) e wide shows = array_holds e (or_zero (fixed c)) (or_zero (fixed w)) shows

    each_holds : (states : List StateTree) → AllByRecursion Wide (flat_map (λ (row : StateTree). state_placed S row.shape row.shown) states) → AllByRecursion (λ (row : StateTree). ShowsArray S row.shape row.shown) states →
        AllByRecursion (ShowsRow S W N from s) states
    each_holds [] wide shows = tt
    each_holds (row ∷ states) wide shows =
        let behind = flat_map (λ (row : StateTree). state_placed S row.shape row.shown) states in (
          state_holds row.shape row.shown (all_front Wide (state_placed S row.shape row.shown) behind wide) shows.0,
          each_holds states (all_back Wide (state_placed S row.shape row.shown) behind wide) shows.1,
        )

    pub word_holds : (T : TableTree) → IsFitting S T → flat.value W N (word_expr S from T.roles.code) ≡ (shown_word S T s).value
    word_holds T fit = value_by_word T.roles.code (role_width S T.roles.fetched) (code_wide T fit)

    pub states_hold : (T : TableTree) → IsFitting S T → AllByRecursion (ShowsRow S W N from s) T.states
    states_hold T fit = each_holds T.states (states_wide T fit) fit.kinds.arrays
