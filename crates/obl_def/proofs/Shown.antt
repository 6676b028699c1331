-- What a state of a design shows, and what the outside answers, has the forms that a fitting table gives.
use Rattle.std.proofs.Common.{◌≡◌, ◌≢◌, ◌≤◌, ◌<◌, ◌+◌, ℕ, zero, suc, Bool, true, List, [], ◌∷◌, length, refl, sym, ap, ap₂, ◌∙◌, subst, arith, inl, inr, Option, Some, None}
use Rattle.std.specs.Prelude.{if◌then◌else◌, bytes_eq, flat_map, ◌&&◌}
use Rattle.std.specs.List.{AllByRecursion}
use Rattle.std.proofs.lemmas.Bool.{and_parts, and_from, cases_Bool}
use Rattle.lola_bits.specs.Vector.{FitsWidth}
use Rattle.lola_bits.specs.Lists.{IsIn, AreEach}
use Rattle.lola_bits.proofs.All.{all_front, all_back}
use Rattle.lola_bits.proofs.Names.{same_name, is_same_name}
use Rattle.lola_bits.proofs.Options.{some_same}
use Rattle.lola_tree.specs.declared.named.Count.TheVariants.{Fixed, Const}
use Rattle.lola_tree.specs.declared.named.Shape.{Shape}
use Rattle.lola_tree.specs.declared.named.Shape.TheVariants.{Vector, Array}
use Rattle.lola_tree.specs.Tree.{Tree, number, whole, bit, slice, index, concat, negation, binary, choice, SourceTree}
use Rattle.lola_tree.specs.Names as lola
use Rattle.lola_tree.specs.Names.{ref_name}
use Rattle.lola_tree.specs.Width.{checked_width, vector_width, element_width, width}
use Rattle.lola_tree.specs.Value.{Path, Values, or_zero}
use Rattle.lola_tree.specs.Cycle.{FitsIn}
use Rattle.lola_tree.specs.design.Signals.{Kind, clock, input, pad, wire, register, Signal, signals, signal_paths}
use Rattle.lola_tree.specs.design.Cycle.{Suits, IsState, IsGiven}
use Rattle.lola_width.specs.Said.{NumbersElements}
use Rattle.lola_design.specs.Paths.{count}
use Rattle.lola_values.proofs.Widths.{checked_is}
use Rattle.lola_values.proofs.OneSignal.{one_signal}
use Rattle.tab_tree.specs.declared.value.StateValue.{StateValue}
use Rattle.tab_tree.specs.Table.{StateTree, TableTree}
use Rattle.tab_tree.specs.Names.{vector, Form, vector_form, array_form, bare_name, mapped, form_width, form_element, nth_number, number_at, scope_by, fixed, shape_form, table_value}
use Rattle.tab_tree.specs.Registers.{array_by, type_form, is_path, is_register, register_among, signal_among, elements, value_by, registers_at, source_forms, source_names}
use Rattle.tab_tree.specs.Step.{by_row}
use Rattle.tab_tree.specs.Headline.{element_shown, shown_by, row_shown, shown, word_shown, shown_word, role_value, answer_of}
use Rattle.tab_tree.specs.Placed.{Placed, code_width, word_width, role_width, given_placed, state_placed}
use Rattle.tab_tree.specs.Suits.{IsOf, HasForm, SuitsArch, SuitsRole, SuitsAnswer}
use Rattle.tab_tree.specs.Fits.{IsInRole, HasWidth, IsWhole, ShowsArray, IsFormWidth, HasElements, ArrayHasWidth, IsFitting}
use Rattle.obl_def.specs.Forms.{HasFormAt, AreOf}
use Rattle.obl_def.proofs.Forms.{vector_is, nth_fits}

-- vectors one behind another
elements_fit : (count n w : ℕ) (numbers : ℕ → ℕ) → ((k : ℕ) → n ≤ k → k < n + count → FitsWidth w (numbers k)) →
    (length (elements count n w numbers) ≡ count) × AllByRecursion (IsOf w) (elements count n w numbers)
elements_fit zero n w numbers fit = (refl, tt)
elements_fit (suc count) n w numbers fit =
    let later = elements_fit count (suc n) w numbers (λ k low high. fit k (omega arith) (omega arith)) in
    (ap suc later.0, (record { wide = refl; fits = fit n (omega arith) (omega arith) }, later.1))

nth_of_elements : (count n k w : ℕ) (numbers : ℕ → ℕ) → k < count → nth_number (elements count n w numbers) k ≡ numbers (n + k)
nth_of_elements zero n k w numbers within = absurd (omega arith)
nth_of_elements (suc count) n zero w numbers within = let e : n ≡ n + 0 = omega arith in ap numbers e
nth_of_elements (suc count) n (suc k) w numbers within = let e : suc n + k ≡ n + suc k = omega arith in nth_of_elements count (suc n) k w numbers (omega arith) ∙ ap numbers e

-- a value of a type has the type's form
vector_by_width : (o : Option ℕ) (n : ℕ) (numbers : ℕ → ℕ) → ((w : ℕ) → o ≡ Some w → FitsWidth w (numbers 0)) → HasFormAt (mapped vector_form o) (value_by (mapped vector_form o) numbers)
vector_by_width None n numbers fit = tt
vector_by_width (Some w) n numbers fit = record { wide = refl; fits = fit w refl }

array_by_width : (c o : Option ℕ) (numbers : ℕ → ℕ) → ((w k : ℕ) → o ≡ Some w → k < or_zero c → FitsWidth w (numbers k)) → HasFormAt (array_by c o) (value_by (array_by c o) numbers)
array_by_width None o numbers fit = tt
array_by_width (Some c) None numbers fit = tt
array_by_width (Some c) (Some w) numbers fit = elements_fit c 0 w numbers (λ k low high. fit w k refl (omega arith))

fits_by : (o : Option ℕ) (n w : ℕ) → FitsIn (checked_width o) n → checked_width o ≡ Some w → FitsWidth w n
fits_by o n w fit e =
    let c = checked_is o w e in
    record { positive = c.1; at_most = c.2; below = subst (λ p. FitsIn p n) e fit }

type_has : (names : lola.Names) (type : Shape) (numbers : ℕ → ℕ) → Suits names type numbers → HasFormAt (type_form names type) (value_by (type_form names type) numbers)
type_has names (Vector w) numbers suits = vector_by_width (vector_width names (Some (Vector w))) 0 numbers (λ k e. fits_by (lola.count_number names w) (numbers 0) k suits e)
type_has names (Array c w) numbers suits =
    array_by_width (lola.count_number names c) (element_width names (Some (Array c w))) numbers
    (λ k n e within. fits_by (lola.count_number names w) (numbers n) k (suits n within) e)

-- registers
same_path : (p q : Path) → is_path p q ≡ true → p ≡ q
same_path [] [] e = refl
same_path [] (n ∷ q) e = absurd (cc)
same_path (n ∷ p) [] e = absurd (cc)
same_path (n ∷ p) (m ∷ q) e =
    let parts = and_parts (bytes_eq n m) (is_path p q) e in
    ap₂ (λ (k : List ℕ) (r : Path). k ∷ r) (is_same_name n m parts.0) (same_path p q parts.1)

register_is : (k : Kind) → is_register k ≡ true → k ≡ register
register_is clock e = absurd (cc)
register_is input e = absurd (cc)
register_is pad e = absurd (cc)
register_is wire e = absurd (cc)
register_is register e = refl

register_has : (xs : List Signal) (s : Values) → ((x : Signal) → IsIn x xs → x.kind ≡ register → Suits x.names x.type (s x.path)) → (path : Path) →
    HasFormAt (register_among xs path) (value_by (register_among xs path) (s path))
register_has [] s suits path = tt
register_has (x ∷ xs) s suits path = elim (cases_Bool (is_register x.kind && is_path x.path path)) [
  | inl e ↦
      let parts = and_parts (is_register x.kind) (is_path x.path path) e in
      rw e (type_has x.names x.type (s path) (subst (λ (p : Path). Suits x.names x.type (s p)) (same_path x.path path parts.1) (suits x (inl refl) (register_is x.kind parts.0))))
  | inr e ↦ rw e (register_has xs s (λ y is kind. suits y (inr is) kind) path)
]

pub source_has : (S : SourceTree) (s : Values) → IsState S s → AreOf (source_forms S) (source_names S s)
source_has S s state = record {
  word = tt;
  count = tt;
  loaded = λ j. tt;
  turned = λ j. tt;
  named = λ name. tt;
  register = λ path. register_has (signals S) s (λ x is kind. state x (is, kind)) path;
}

-- a wanted width is had
wanted_width : (wanted o : Option ℕ) → HasWidth wanted o → (w : ℕ) × (o ≡ Some w)
wanted_width None None h = absurd (h refl)
wanted_width None (Some w) h = (w, refl)
wanted_width (Some w) o h = (w, h)

-- an expression has a width where it stands, and the one that is needed
abbrev pub Wide : Placed → Type 0
Wide e = HasWidth e.wanted (width (scope_by e.names) e.expr)

module _ (numbers : (elements bits : ℕ) → NumbersElements elements bits) (S : SourceTree) (T : TableTree) (fit : IsFitting S T) where
  -- the word
  word_by : (s : Values) → IsState S s → (o : Option Tree) (wanted : Option ℕ) → AllByRecursion Wide (given_placed o (source_forms S) wanted) → IsOf (code_width S o) (word_shown S o s)
  word_by s state None wanted wide = record { wide = refl; fits = record { positive = omega arith; at_most = omega arith; below = omega arith } }
  word_by s state (Some e) wanted wide =
      let w = wanted_width wanted (width (scope_by (source_forms S)) e) wide.0 in
      let v = vector_is numbers (source_forms S) (source_names S s) (source_has S s state) e w.0 w.1 in
      subst (λ (k : ℕ). IsOf k (table_value (source_names S s) e)) (sym (ap or_zero w.1)) v.1

  pub word_fits : (s : Values) → IsState S s → IsOf (word_width S T) (shown_word S T s)
  word_fits s state = word_by s state T.roles.code (role_width S T.roles.fetched) (all_front Wide (given_placed T.roles.code (source_forms S) (role_width S T.roles.fetched)) _ fit.widths.exprs)

  -- the states
  array_fits : (s : Values) → IsState S s → (e : Tree) (count w : ℕ) → IsWhole S e count → HasElements S e w → (k : ℕ) → k < count → FitsWidth w (element_shown e (source_names S s) k)
  array_fits s state (whole of) count w is has k within =
      let h = subst (λ o. HasFormAt o (value_by o (s of.path))) is.1.1 ((source_has S s state).register of.path) in
      let same : is.1.0 ≡ w = some_same is.1.0 w (sym (ap form_element is.1.1) ∙ has) in
      let long : length (elements count 0 is.1.0 (s of.path)) ≡ count = h.0 in
      let n = nth_fits (elements count 0 is.1.0 (s of.path)) k is.1.0 h.1 (omega arith) in
      subst (λ (b : Bool). FitsWidth w (number_at (if b then registers_at S s of.path else bare_name (source_names S s) (ref_name of)) k)) (sym is.0)
      (subst (λ o. FitsWidth w (number_at (value_by o (s of.path)) k)) (sym is.1.1) (subst (λ (v : ℕ). FitsWidth v (nth_number (elements count 0 is.1.0 (s of.path)) k)) same n))
  array_fits s state (number value written at) count w is has k within = absurd is
  array_fits s state (bit of place at) count w is has k within = absurd is
  array_fits s state (slice of high low at) count w is has k within = absurd is
  array_fits s state (index of place at) count w is has k within = absurd is
  array_fits s state (concat parts at) count w is has k within = absurd is
  array_fits s state (negation arg at) count w is has k within = absurd is
  array_fits s state (binary op left right at) count w is has k within = absurd is
  array_fits s state (choice test first second at) count w is has k within = absurd is

  state_fits : (s : Values) → IsState S s → (shape : Shape) (e : Tree) → AllByRecursion Wide (state_placed S shape e) → ShowsArray S shape e → IsFormWidth (shape_form shape) → ArrayHasWidth S shape e →
      HasForm (shape_form shape) (shown_by shape e (source_names S s))
  state_fits s state (Vector (Fixed n at)) e wide shows sized elements_are = (vector_is numbers (source_forms S) (source_names S s) (source_has S s state) e n wide.0).1
  state_fits s state (Vector (Const name)) e wide shows sized elements_are = absurd (cc)
  state_fits s state (Array c w) e wide shows sized elements_are =
      elements_fit (or_zero (fixed c)) 0 (or_zero (fixed w)) (element_shown e (source_names S s))
      (λ k low high. array_fits s state e (or_zero (fixed c)) (or_zero (fixed w)) shows elements_are k (omega arith))

  each_fits : (s : Values) → IsState S s → (n : ℕ) (rows : List StateTree) → AllByRecursion Wide (flat_map (λ (row : StateTree). state_placed S row.shape row.shown) rows) →
      AllByRecursion (λ (row : StateTree). ShowsArray S row.shape row.shown) rows → AllByRecursion (λ (row : StateTree). IsFormWidth (shape_form row.shape)) rows →
      AllByRecursion (λ (row : StateTree). ArrayHasWidth S row.shape row.shown) rows →
      AreEach (λ (row : StateTree) (a : StateValue). HasForm (shape_form row.shape) a) rows (by_row (λ n row. row_shown S row s) n rows)
  each_fits s state n [] wide shows sized are = tt
  each_fits s state n (row ∷ rows) wide shows sized are =
      let behind = flat_map (λ (row : StateTree). state_placed S row.shape row.shown) rows in (
        state_fits s state row.shape row.shown (all_front Wide (state_placed S row.shape row.shown) behind wide) shows.0 sized.0 are.0,
        each_fits s state (suc n) rows (all_back Wide (state_placed S row.shape row.shown) behind wide) shows.1 sized.1 are.1,
      )

  pub states_fit : (s : Values) → IsState S s → SuitsArch T (shown S T s)
  states_fit s state =
      let behind = all_back Wide (given_placed T.roles.code (source_forms S) (role_width S T.roles.fetched)) _ fit.widths.exprs in
      each_fits s state 0 T.states (all_front Wide (flat_map (λ (row : StateTree). state_placed S row.shape row.shown) T.states) _ behind) fit.kinds.arrays fit.widths.states fit.widths.arrays

-- what LOADED brings
found : (xs : List Signal) (path : Path) (x : Signal) → IsIn x xs → x.path ≡ path → (y : Signal) × IsIn y xs × (y.path ≡ path) × (signal_among xs path ≡ type_form y.names y.type)
found [] path x is leads = absurd is
found (z ∷ xs) path x is leads = elim (cases_Bool (is_path z.path path)) [
  | inl e ↦ (z, inl refl, same_path z.path path e, rw e refl)
  | inr e ↦ elim is [
    | inl first ↦ absurd (let f : is_path z.path path ≡ true = subst (λ (p : Path). is_path p path ≡ true) (sym leads ∙ ap (λ (k : Signal). k.path) first) (own_path path) in cc)
    | inr later ↦ let r = found xs path x later leads in (r.0, inr r.1, r.2, rw e r.3)
  ]
]
  where
    own_path : (p : Path) → is_path p p ≡ true
    own_path [] = refl
    own_path (n ∷ p) = and_from (bytes_eq n n) (is_path p p) (same_name n n refl) (own_path p)

role_by : (o : Option Form) (numbers : ℕ → ℕ) → form_width o ≢ None → HasFormAt o (value_by o numbers) → IsOf (or_zero (form_width o)) (vector (or_zero (form_width o)) (numbers 0))
role_by None numbers some h = absurd (some refl)
role_by (Some (vector_form w)) numbers some h = h
role_by (Some (array_form c w)) numbers some h = absurd (some refl)

role_fits : (S : SourceTree) → ((p : Path) → count p (signal_paths S) ≤ 1) → (o : Option (List ℕ)) → IsInRole S o → (inp : Values) → IsGiven S inp → SuitsRole S o (role_value S o inp)
role_fits S once None is inp given = (refl, refl)
role_fits S once (Some port) is inp given =
    let path : Path = port ∷ [] in
    let f = found (signals S) path is.signal is.listed.0 is.leads in
    let same : f.0 ≡ is.signal = one_signal path (signals S) (once path) f.0 is.signal f.1 is.listed.0 f.2 is.leads in
    let form : signal_among (signals S) path ≡ type_form is.signal.names is.signal.type = f.3 ∙ ap (λ (y : Signal). type_form y.names y.type) same in
    let suits : Suits is.signal.names is.signal.type (inp path) = subst (λ (p : Path). Suits is.signal.names is.signal.type (inp p)) is.leads (given.inputs is.signal is.listed) in
    role_by (signal_among (signals S) path) (inp path) is.vector
    (subst (λ o. HasFormAt o (value_by o (inp path))) (sym form) (type_has is.signal.names is.signal.type (inp path) suits))

pub answer_fits : (S : SourceTree) (T : TableTree) → ((p : Path) → count p (signal_paths S) ≤ 1) → IsFitting S T → (inp : Values) → IsGiven S inp → SuitsAnswer S T (answer_of S T inp)
answer_fits S T once fit inp given = record { code = role_fits S once T.roles.fetched fit.roles.fetched inp given; loaded = role_fits S once T.roles.loaded fit.roles.loaded inp given }
