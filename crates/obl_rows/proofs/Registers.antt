-- The registers that a path names, and their rows.
use Rattle.std.proofs.Common.{◌≡◌, ℕ, zero, suc, ◌+◌, Bool, true, false, List, [], ◌∷◌, ◌++◌, map, replicate, Option, Some, None, refl, sym, ◌∙◌, ap, ap₂, subst, arith, inl, inr}
use Rattle.std.specs.Prelude.{bytes_eq, ◌&&◌, if◌then◌else◌}
use Rattle.std.proofs.lemmas.List.{map-append}
use Rattle.std.proofs.lemmas.Bool.{cases_Bool, and_parts}
use Rattle.lola_bits.specs.declared.vector.Bits.{Bits}
use Rattle.lola_bits.specs.Lists.{IsIn}
use Rattle.lola_bits.proofs.Names.{is_same_name}
use Rattle.lola_bits.proofs.Options.{some_same, nothing}
use Rattle.lola_alg.specs.Means.{IsWidth}
use Rattle.lola_flat.specs.Numbers.{first_numbers}
use Rattle.lola_flat.specs.Value.{Env}
use Rattle.lola_tree.specs.declared.named.Shape.{Shape}
use Rattle.lola_tree.specs.declared.named.Shape.TheVariants.{Vector, Array}
use Rattle.lola_tree.specs.Tree.{SourceTree}
use Rattle.lola_tree.specs.Names.{Names as ModuleNames, count_number}
use Rattle.lola_tree.specs.Width.{vector_width, element_width}
use Rattle.lola_tree.specs.Value.{Path, Values, or_zero}
use Rattle.lola_tree.specs.design.Signals.{Kind, clock, input, pad, wire, register, Signal, signals}
use Rattle.lola_tree.specs.design.Signals as design
use Rattle.lola_width.specs.Said.{NumbersElements}
use Rattle.lola_unfold.specs.Flat.{flat_width, flat_count, numbers_of}
use Rattle.lola_meaning.specs.Typed.{HasWidth}
use Rattle.lola_meaning.proofs.Tables.{typed_vector, typed_array}
use Rattle.tab_tree.specs.declared.value.StateValue.{StateValue}
use Rattle.tab_tree.specs.declared.value.StateValue.TheVariants.{One, Many}
use Rattle.tab_tree.specs.Names.{vector, Form, vector_form, array_form, mapped}
use Rattle.tab_tree.specs.Registers.{array_by, type_form, is_path, is_register, register_among, registers_of, elements, value_by, source_forms, source_names}
use Rattle.tab_numbered.specs.Rows.{form_widths, wide_form, number_of, value_numbers, HasRow, HasRowAt, AreRows, HoldsAt, HoldValues}
use Rattle.obl_rows.specs.Registers.{registers_from, HasRegisters, HoldsRegisters}

same_path : (p q : Path) → is_path p q ≡ true → p ≡ q
same_path [] [] e = refl
same_path [] (n ∷ q) e = absurd (let f : false ≡ true = e in cc)
same_path (m ∷ p) [] e = absurd (let f : false ≡ true = e in cc)
same_path (m ∷ p) (n ∷ q) e =
    let parts = and_parts (bytes_eq m n) (is_path p q) e in
    ap₂ (λ (a : List ℕ) (b : Path). a ∷ b) (is_same_name m n parts.0) (same_path p q parts.1)

kind_is : (k : Kind) → is_register k ≡ true → k ≡ register
kind_is clock e = absurd (let f : false ≡ true = e in cc)
kind_is input e = absurd (let f : false ≡ true = e in cc)
kind_is pad e = absurd (let f : false ≡ true = e in cc)
kind_is wire e = absurd (let f : false ≡ true = e in cc)
kind_is register e = refl

-- a register of a form that a path names
record Found (xs : List Signal) (path : Path) (form : Form) : Type 0 where
  signal : Signal
  there : IsIn signal xs
  kind : signal.kind ≡ register
  path_is : signal.path ≡ path
  form_is : type_form signal.names signal.type ≡ Some form

found : (xs : List Signal) (path : Path) (form : Form) → register_among xs path ≡ Some form → Found xs path form
found [] path form e = nothing form e
found (x ∷ xs) path form e = elim (cases_Bool (is_register x.kind && is_path x.path path)) [
  | inl hit ↦ (
      let parts = and_parts (is_register x.kind) (is_path x.path path) hit in
      record {
        signal = x;
        there = inl refl;
        kind = kind_is x.kind parts.0;
        path_is = same_path x.path path parts.1;
        form_is = sym (ap (λ (t : Bool). if t then type_form x.names x.type else register_among xs path) hit) ∙ e;
      })
  | inr miss ↦ (
      let f = found xs path form (sym (ap (λ (t : Bool). if t then type_form x.names x.type else register_among xs path) miss) ∙ e) in
      record { signal = f.signal; there = inr f.there; kind = f.kind; path_is = f.path_is; form_is = f.form_is })
]

-- the form of a type that has a width
mapped_is : (o : Option ℕ) (form : Form) → mapped vector_form o ≡ Some form → (w : ℕ) × (o ≡ Some w) × (vector_form w ≡ form)
mapped_is None form e = nothing form e
mapped_is (Some w) form e = (w, refl, some_same (vector_form w) form e)

array_is : (count width : Option ℕ) (form : Form) → array_by count width ≡ Some form → (n : ℕ) × (w : ℕ) × (count ≡ Some n) × (width ≡ Some w) × (array_form n w ≡ form)
array_is None width form e = nothing form e
array_is (Some n) None form e = nothing form e
array_is (Some n) (Some w) form e = (n, w, refl, refl, some_same (array_form n w) form e)

-- the elements of an array, one more at the end
one_more : (count n w : ℕ) (numbers : ℕ → ℕ) → elements (suc count) n w numbers ≡ elements count n w numbers ++ vector w (numbers (n + count)) ∷ []
one_more zero n w numbers = let e : n ≡ n + 0 = omega arith in ap (λ (k : ℕ). vector w (numbers k) ∷ []) e
one_more (suc count) n w numbers =
    let e : suc n + count ≡ n + suc count = omega arith in
    ap (λ (l : List Bits). vector w (numbers n) ∷ l) (one_more count (suc n) w numbers ∙ ap (λ (k : ℕ). elements count (suc n) w numbers ++ vector w (numbers k) ∷ []) e)

elements_are : (count w : ℕ) (numbers : ℕ → ℕ) → map numbers (first_numbers count) ≡ map number_of (elements count 0 w numbers)
elements_are zero w numbers = refl
elements_are (suc count) w numbers =
    map-append numbers (first_numbers count) (count ∷ [])
    ∙ ap (λ (l : List ℕ). l ++ numbers count ∷ []) (elements_are count w numbers)
    ∙ sym (map-append number_of (elements count 0 w numbers) (vector w (numbers count) ∷ []))
    ∙ sym (ap (map number_of) (one_more count 0 w numbers ∙ (let e : 0 + count ≡ count = omega arith in ap (λ (k : ℕ). elements count 0 w numbers ++ vector w (numbers k) ∷ []) e)))

-- a row of a type, and of its form
abbrev its_row : ModuleNames → Shape → List ℕ
its_row names type = replicate (flat_count names type) (flat_width names type)

module _ (elements_law : (elements bits : ℕ) → NumbersElements elements bits) where
  row_of : (names : ModuleNames) (type : Shape) (form : Form) → type_form names type ≡ Some form → HasWidth names type → (its_row names type ≡ form_widths form) × IsWidth (wide_form form)
  row_of names (Vector w) form e has =
      let m = mapped_is (vector_width names (Some (Vector w))) form e in
      let t = typed_vector names (Vector w) m.0 tt m.1 in
      subst (λ (f : Form). (its_row names (Vector w) ≡ form_widths f) × IsWidth (wide_form f)) m.2 (ap (λ (k : ℕ). replicate 1 k) t.width, t.wide)
  row_of names (Array c w) form e has =
      let m = array_is (count_number names c) (element_width names (Some (Array c w))) form e in
      let t = typed_array elements_law names (Array c w) has.0 has.1 tt has.2 has.3 in
      let count_is : flat_count names (Array c w) ≡ m.0 = t.count ∙ sym t.elements_are ∙ ap or_zero m.2 in
      let same : has.0 ≡ m.1 = some_same has.0 m.1 (sym has.2 ∙ m.3) in
      subst (λ (f : Form). (its_row names (Array c w) ≡ form_widths f) × IsWidth (wide_form f)) m.4
      (ap₂ (λ (n k : ℕ). replicate n k) count_is (t.width ∙ same), subst IsWidth same t.wide)

  values_of : (names : ModuleNames) (type : Shape) (form : Form) (numbers : ℕ → ℕ) → type_form names type ≡ Some form →
      (a : StateValue) → value_by (Some form) numbers ≡ Some a → map numbers (first_numbers (design.elements names type)) ≡ value_numbers a
  values_of names (Vector w) form numbers e a is =
      let m = mapped_is (vector_width names (Some (Vector w))) form e in
      let b : value_by (Some (vector_form m.0)) numbers ≡ Some a = ap (λ (f : Form). value_by (Some f) numbers) m.2 ∙ is in
      ap value_numbers (some_same (One (vector m.0 (numbers 0))) a b)
  values_of names (Array c w) form numbers e a is =
      let m = array_is (count_number names c) (element_width names (Some (Array c w))) form e in
      let b : value_by (Some (array_form m.0 m.1)) numbers ≡ Some a = ap (λ (f : Form). value_by (Some f) numbers) m.4 ∙ is in
      ap (λ (o : Option ℕ). map numbers (first_numbers (or_zero o))) m.2 ∙ elements_are m.0 m.1 numbers ∙ ap value_numbers (some_same (Many (elements m.0 0 m.1 numbers)) a b)

module _ (elements_law : (elements bits : ℕ) → NumbersElements elements bits) (S : SourceTree) (has : (x : Signal) → IsIn x (signals S) → HasWidth x.names x.type) (from : ℕ) where
  row_at : (W : Env ℕ) → HasRegisters S W from → (path : Path) (o : Option Form) → registers_of S path ≡ o → HasRowAt W o (Some (from + numbers_of S path))
  row_at W rows path None e = tt
  row_at W rows path (Some form) e =
      let f = found (signals S) path form e in
      let r = row_of elements_law f.signal.names f.signal.type form f.form_is (has f.signal f.there) in
      subst (λ (p : Path). HasRow W form (from + numbers_of S p)) f.path_is
      (record {
        inside = rows.inside f.signal (f.there, f.kind);
        is = rows.widths f.signal (f.there, f.kind) ∙ r.0;
        wide = r.1;
      })

  pub rows_are : (W : Env ℕ) → HasRegisters S W from → AreRows W (source_forms S) (registers_from S from)
  rows_are W rows = record { word = tt; count = tt; loaded = λ j. tt; turned = λ j. tt; named = λ name. tt; register = λ path. row_at W rows path (registers_of S path) refl }

  held_by : (N : Env ℕ) (s : Values) → HoldsRegisters S N from s → (path : Path) (form : Form) → registers_of S path ≡ Some form → (o : Option StateValue) → value_by (Some form) (s path) ≡ o → HoldsAt N o (Some (from + numbers_of S path))
  held_by N s holds path form e None is = tt
  held_by N s holds path form e (Some a) is =
      let f = found (signals S) path form e in
      let is_there : value_by (Some form) (s f.signal.path) ≡ Some a = ap (λ (p : Path). value_by (Some form) (s p)) f.path_is ∙ is in
      let v = values_of elements_law f.signal.names f.signal.type form (s f.signal.path) f.form_is a is_there in
      subst (λ (p : Path). HoldsAt N (Some a) (Some (from + numbers_of S p))) f.path_is (holds.inside f.signal (f.there, f.kind), holds.values f.signal (f.there, f.kind) ∙ v)

  held_at : (N : Env ℕ) (s : Values) → HoldsRegisters S N from s → (path : Path) (o : Option Form) → registers_of S path ≡ o → HoldsAt N (value_by o (s path)) (Some (from + numbers_of S path))
  held_at N s holds path None e = tt
  held_at N s holds path (Some form) e = held_by N s holds path form e (value_by (Some form) (s path)) refl

  pub values_are : (N : Env ℕ) (s : Values) → HoldsRegisters S N from s → HoldValues N (source_names S s) (registers_from S from)
  values_are N s holds = record { word = tt; count = tt; loaded = λ j. tt; turned = λ j. tt; named = λ name. tt; register = λ path. held_at N s holds path (registers_of S path) refl }
