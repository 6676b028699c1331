-- Names that stand for values of their forms, and the expressions over them.
use Rattle.std.proofs.Common.{◌≡◌, ◌<◌, ◌^◌, ℕ, zero, suc, cond, List, [], ◌∷◌, length, refl, sym, ap, ap₂, ◌∙◌, subst, arith, Option, Some, None}
use Rattle.std.specs.Prelude.{bytes_eq, nat_eq}
use Rattle.std.specs.List.{AllByRecursion}
use Rattle.lola_bits.specs.declared.vector.Bits.{Bits}
use Rattle.lola_bits.specs.Vector.{FitsWidth}
use Rattle.lola_bits.proofs.Options.{some_same, nothing}
use Rattle.lola_tree.specs.declared.named.Ref.{Ref}
use Rattle.lola_tree.specs.Tree.{Tree, number, whole, bit, slice, index, concat, negation, binary, choice, Parts, no_part, one_part}
use Rattle.lola_tree.specs.Width.{place_width, same_width, defined_width, bit_width, slice_width, operator_width, repeated_width, joined_width, checked_width, width, total_width}
use Rattle.lola_bits.specs.Number.{joined, inverted, operate}
use Rattle.lola_tree.specs.Value.{or_zero, repeated, value, value_of_parts}
use Rattle.lola_width.specs.Said.{NumbersElements}
use Rattle.lola_values.proofs.Below.{value_fits}
use Rattle.tab_tree.specs.declared.value.StateValue.{StateValue}
use Rattle.tab_tree.specs.declared.value.StateValue.TheVariants.{One, Many}
use Rattle.tab_tree.specs.Table.{LetTree}
use Rattle.tab_tree.specs.Names.{vector, Form, vector_form, array_form, Names, look, first_width, form_of, mapped, forms_of, form_width, form_element, form_place, scope_by, nth_number, number_at, vector_by, table_vector, table_value, with_name, with_rows, with_forms, fixed, or_empty}
use Rattle.tab_tree.specs.Suits.{IsOf}
use Rattle.obl_def.specs.Forms.{HasFormAt, AreOf}
use Rattle.obl_def.proofs.Looking.{Related, if_by, look_by}

related : (forms : Names Form) (names : Names StateValue) → AreOf forms names → Related HasFormAt forms names
related forms names are = record { word = are.word; count = are.count; loaded = are.loaded; turned = are.turned; named = are.named; register = are.register }

-- the form of a value is its form
abbrev IsFormOf : Option Form → Option StateValue → Type 0
IsFormOf f a = f ≡ mapped form_of a

own_forms : (names : Names StateValue) → Related IsFormOf (forms_of names) names
own_forms names = record { word = refl; count = refl; loaded = λ j. refl; turned = λ j. refl; named = λ name. refl; register = λ path. refl }

own_form : (names : Names StateValue) (r : Ref) → look (forms_of names) r ≡ mapped form_of (look names r)
own_form names r = look_by IsFormOf (forms_of names) names (own_forms names) r

-- two forms say the same of widths
pub record SameWidths (f g : Option Form) : Type 0 where
  pub wide : form_width f ≡ form_width g
  pub indexed : (w : Option ℕ) → defined_width (form_element f) (same_width (form_place f) w) ≡ defined_width (form_element g) (same_width (form_place g) w)

same_widths : (f : Option Form) (a : Option StateValue) → HasFormAt f a → SameWidths (mapped form_of a) f
same_widths None None h = record { wide = refl; indexed = λ w. refl }
same_widths None (Some a) h = absurd h
same_widths (Some f) None h = absurd h
same_widths (Some (vector_form w)) (Some (One x)) h = record { wide = ap (λ (k : ℕ). Some k) h.wide; indexed = λ o. refl }
same_widths (Some (vector_form w)) (Some (Many xs)) h = absurd h
same_widths (Some (array_form count w)) (Some (One x)) h = absurd h
same_widths (Some (array_form count w)) (Some (Many [])) h = record {
  wide = refl;
  indexed = λ o. ap (λ (n : ℕ). defined_width (Some w) (same_width (place_width n) o)) h.0;
}
same_widths (Some (array_form count w)) (Some (Many (x ∷ xs))) h = record {
  wide = refl;
  indexed = λ o. ap₂ (λ (v n : ℕ). defined_width (Some v) (same_width (place_width n) o)) h.1.0.wide h.0;
}

-- so expressions have the same widths
module _ (f g : Names Form) (same : (r : Ref) → SameWidths (look f r) (look g r)) where
  mutual
    pub width_same : (e : Tree) → width (scope_by f) e ≡ width (scope_by g) e
    width_same (number n written at) = refl
    width_same (whole of) = (same of).wide
    width_same (bit of place at) = ap (bit_width (fixed place)) (same of).wide
    width_same (slice of high low at) = ap (slice_width (fixed high) (fixed low)) (same of).wide
    width_same (index of place at) =
        ap (λ o. defined_width (form_element (look f of)) (same_width (form_place (look f of)) o)) (width_same place) ∙ (same of).indexed (width (scope_by g) place)
    width_same (concat parts at) = ap checked_width (total_same parts)
    width_same (negation e at) = width_same e
    width_same (binary op a b at) = ap₂ (operator_width op) (width_same a) (width_same b)
    width_same (choice test a b at) =
        ap₂ (λ o p. defined_width o (same_width (Some 1) p)) (ap₂ same_width (width_same a) (width_same b)) (width_same test)

    total_same : (parts : Parts) → total_width (scope_by f) parts ≡ total_width (scope_by g) parts
    total_same no_part = refl
    total_same (one_part e times behind) = ap₂ (λ o p. joined_width (repeated_width o (fixed times)) p) (width_same e) (total_same behind)

  module _ (read : Ref → ℕ → ℕ) where
    mutual
      pub value_same : (e : Tree) → value (scope_by f) e read ≡ value (scope_by g) e read
      value_same (number n written at) = refl
      value_same (whole of) = refl
      value_same (bit of place at) = refl
      value_same (slice of high low at) = refl
      value_same (index of place at) = ap (read of) (value_same place)
      value_same (concat parts at) = parts_same parts
      value_same (negation e at) = ap₂ (λ (w : Option ℕ) (n : ℕ). inverted (or_zero w) n) (width_same e) (value_same e)
      value_same (binary op a b at) =
          ap₂ (λ (w : Option ℕ) (n : ℕ). operate op (or_zero w) n (value (scope_by f) b read)) (width_same a) (value_same a)
          ∙ ap (operate op (or_zero (width (scope_by g) a)) (value (scope_by g) a read)) (value_same b)
      value_same (choice test a b at) =
          ap₂ (λ (n m : ℕ). cond (nat_eq n 1) m (value (scope_by f) b read)) (value_same test) (value_same a)
          ∙ ap (cond (nat_eq (value (scope_by g) test read) 1) (value (scope_by g) a read)) (value_same b)

      parts_same : (parts : Parts) → value_of_parts (scope_by f) parts read ≡ value_of_parts (scope_by g) parts read
      parts_same no_part = refl
      parts_same (one_part e times behind) =
          ap₂ (λ (w : Option ℕ) (n : ℕ). joined (repeated (or_zero (fixed times)) (or_zero w) n) (or_zero (total_width (scope_by f) behind)) (value_of_parts (scope_by f) behind read)) (width_same e) (value_same e)
          ∙ ap₂ (λ (w : Option ℕ) (n : ℕ). joined (repeated (or_zero (fixed times)) (or_zero (width (scope_by g) e)) (value (scope_by g) e read)) (or_zero w) n) (total_same behind) (parts_same behind)

-- what values fit
abbrev count_of : Option StateValue → ℕ
count_of None = 0
count_of (Some (One x)) = 1
count_of (Some (Many xs)) = length xs

vector_fits : (f : Option Form) (a : Option StateValue) → HasFormAt f a → (w : ℕ) → form_width (mapped form_of a) ≡ Some w → FitsWidth w (number_at a 0)
vector_fits None None h w e = nothing w e
vector_fits None (Some a) h w e = absurd h
vector_fits (Some f) None h w e = absurd h
vector_fits (Some (vector_form k)) (Some (One x)) h w e = subst (λ (n : ℕ). FitsWidth n x.value) (some_same x.width w e) h.fits
vector_fits (Some (vector_form k)) (Some (Many xs)) h w e = absurd h
vector_fits (Some (array_form count k)) (Some (One x)) h w e = absurd h
vector_fits (Some (array_form count k)) (Some (Many xs)) h w e = nothing w e

pub nth_fits : (xs : List Bits) (n k : ℕ) → AllByRecursion (IsOf k) xs → n < length xs → FitsWidth k (nth_number xs n)
nth_fits [] n k all within = absurd (omega arith)
nth_fits (x ∷ xs) zero k all within = subst (λ (m : ℕ). FitsWidth m x.value) all.0.wide all.0.fits
nth_fits (x ∷ xs) (suc n) k all within = nth_fits xs n k all.1 (omega arith)

first_is : (xs : List Bits) (n k : ℕ) → AllByRecursion (IsOf k) xs → n < length xs → first_width xs ≡ k
first_is [] n k all within = absurd (omega arith)
first_is (x ∷ xs) n k all within = all.0.wide

element_fits : (f : Option Form) (a : Option StateValue) → HasFormAt f a → (n : ℕ) → n < count_of a → (w : ℕ) → form_element (mapped form_of a) ≡ Some w → FitsWidth w (number_at a n)
element_fits None None h n within w e = nothing w e
element_fits None (Some a) h n within w e = absurd h
element_fits (Some f) None h n within w e = absurd h
element_fits (Some (vector_form k)) (Some (One x)) h n within w e = nothing w e
element_fits (Some (vector_form k)) (Some (Many xs)) h n within w e = absurd h
element_fits (Some (array_form count k)) (Some (One x)) h n within w e = absurd h
element_fits (Some (array_form count k)) (Some (Many xs)) h n within w e =
    subst (λ (m : ℕ). FitsWidth m (nth_number xs n)) (sym (first_is xs n k h.1 within) ∙ some_same (first_width xs) w e) (nth_fits xs n k h.1 within)

module _ (numbers : (elements bits : ℕ) → NumbersElements elements bits) where
  place_is : (a : Option StateValue) (k : ℕ) → form_place (mapped form_of a) ≡ Some k → count_of a ≡ 2 ^ k
  place_is None k e = nothing k e
  place_is (Some (One x)) k e = nothing k e
  place_is (Some (Many xs)) k e = ((numbers (length xs) k).0 e).2

  module _ (forms : Names Form) (names : Names StateValue) (are : AreOf forms names) where
    pub has : (r : Ref) → HasFormAt (look forms r) (look names r)
    has r = look_by HasFormAt forms names (related forms names are) r

    pub own_widths : (e : Tree) → width (scope_by (forms_of names)) e ≡ width (scope_by forms) e
    own_widths e = width_same (forms_of names) forms
        (λ r. subst (λ f. SameWidths f (look forms r)) (sym (own_form names r)) (same_widths (look forms r) (look names r) (has r))) e

    pub own_values : (e : Tree) (read : Ref → ℕ → ℕ) → value (scope_by (forms_of names)) e read ≡ value (scope_by forms) e read
    own_values e read = value_same (forms_of names) forms
        (λ r. subst (λ f. SameWidths f (look forms r)) (sym (own_form names r)) (same_widths (look forms r) (look names r) (has r))) read e

    -- the vector of an expression with a width, and its fit
    pub vector_is : (e : Tree) (w : ℕ) → width (scope_by forms) e ≡ Some w → (table_vector names e ≡ Some (table_value names e)) × IsOf w (table_value names e)
    vector_is e w wide =
        let read = λ (r : Ref) (n : ℕ). number_at (look names r) n in
        let own : width (scope_by (forms_of names)) e ≡ Some w = own_widths e ∙ wide in
        let n = value (scope_by (forms_of names)) e read in
        let fits : FitsWidth w n = (value_fits (scope_by (forms_of names)) read (λ r. count_of (look names r)) (λ r. Unit {0}) (λ r. Unit {0})
        (λ r p v q. vector_fits (look forms r) (look names r) (has r) v (sym (ap form_width (own_form names r)) ∙ q))
        (λ r c v q s. nothing c q)
        (λ r p k within v q. element_fits (look forms r) (look names r) (has r) k within v (sym (ap form_element (own_form names r)) ∙ q))
        (λ r p k q. place_is (look names r) k (sym (ap form_place (own_form names r)) ∙ q))
        e (λ r is. tt) (λ a is. tt) w own).0 in
        let x : table_vector names e ≡ Some (vector w n) = ap (λ o. vector_by o n) own in
        let y : table_value names e ≡ vector w n = ap or_empty x in
        (x ∙ ap (λ (z : Bits). Some z) (sym y), subst (IsOf w) (sym y) (record { wide = refl; fits = fits }))

    by_width : (e : Tree) (o : Option ℕ) → width (scope_by forms) e ≡ o → HasFormAt (mapped vector_form (width (scope_by forms) e)) (mapped One (table_vector names e))
    by_width e None is =
        let none : None ≡ table_vector names e = sym (ap (λ p. vector_by p (value (scope_by (forms_of names)) e (λ r n. number_at (look names r) n))) (own_widths e ∙ is)) in
        subst (λ f. HasFormAt (mapped vector_form f) (mapped One (table_vector names e))) (sym is) (subst (λ x. HasFormAt None (mapped One x)) none tt)
    by_width e (Some w) is =
        let v = vector_is e w is in
        subst (λ f. HasFormAt (mapped vector_form f) (mapped One (table_vector names e))) (sym is) (subst (λ x. HasFormAt (Some (vector_form w)) (mapped One x)) (sym v.0) v.1)

    pub value_has : (e : Tree) → HasFormAt (mapped vector_form (width (scope_by forms) e)) (mapped One (table_vector names e))
    value_has e = by_width e (width (scope_by forms) e) refl

  -- fields and LETs
  pub rows_of : (rows : List LetTree) (forms : Names Form) (names : Names StateValue) → AreOf forms names → AreOf (with_forms rows forms) (with_rows rows names)
  rows_of [] forms names are = are
  rows_of (row ∷ rows) forms names are =
      rows_of rows (with_name forms row.name (mapped vector_form (width (scope_by forms) row.value))) (with_name names row.name (mapped One (table_vector names row.value)))
      (record {
        word = are.word;
        count = are.count;
        loaded = are.loaded;
        turned = are.turned;
        named = λ name. if_by HasFormAt (bytes_eq row.name name) (mapped vector_form (width (scope_by forms) row.value)) (forms.named name) (mapped One (table_vector names row.value)) (names.named name)
            (value_has forms names are row.value) (are.named name);
        register = are.register;
      })
