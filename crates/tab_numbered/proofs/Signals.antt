-- What a name's signal is, by its form and its value.
use Rattle.std.proofs.Common.{◌≡◌, ℕ, zero, suc, ◌-◌, ◌^◌, false, ◌<◌, List, [], ◌∷◌, length, map, replicate, get_or, Option, Some, None, refl, sym, ◌∙◌, ap, subst, arith}
use Rattle.std.specs.Prelude.{nat_eq}
use Rattle.std.specs.List.{AllByRecursion}
use Rattle.std.proofs.lemmas.Bool.{cond-false}
use Rattle.std.proofs.lemmas.Bool.Decides.{nat_tests}
use Rattle.lola_bits.specs.declared.vector.Bits.{Bits}
use Rattle.lola_bits.specs.Vector.{FitsWidth}
use Rattle.lola_bits.proofs.Options.{some_same, nothing}
use Rattle.lola_alg.specs.Means.{number_in}
use Rattle.lola_flat.specs.Tree.{signal}
use Rattle.lola_flat.specs.Value.{Env, elements, IsVectorOf}
use Rattle.lola_flat.specs.Value as flat
use Rattle.lola_tree.specs.Value.{or_zero}
use Rattle.lola_width.specs.Said.{NumbersElements}
use Rattle.lola_renamed.specs.Reads.{FitsIn, IsArrayAt}
use Rattle.tab_tree.specs.declared.value.StateValue.{StateValue}
use Rattle.tab_tree.specs.declared.value.StateValue.TheVariants.{One, Many}
use Rattle.tab_tree.specs.Names.{Form, vector_form, array_form, form_width, form_element, form_place, nth_number, number_at}
use Rattle.tab_tree.specs.Suits.{IsOf}
use Rattle.obl_def.specs.Forms.{HasFormAt}
use Rattle.tab_numbered.specs.Rows.{number_of, HasRowAt, HoldsAt}

-- a vector's signal
pub vector_fits : (W : Env ℕ) (form : Option Form) (n : Option ℕ) → HasRowAt W form n → (w : ℕ) → form_width form ≡ Some w → FitsIn W (signal (or_zero n)) w
vector_fits W None n has w e = nothing w e
vector_fits W (Some form) None has w e = absurd has
vector_fits W (Some (array_form count k)) (Some n) has w e = nothing w e
vector_fits W (Some (vector_form k)) (Some n) has w e =
    let same : k ≡ w = some_same k w e in
    subst (FitsIn W (signal n)) same
    (record {
      is = ap (λ (l : List ℕ). get_or l 0 0) has.is;
      fits = (has.inside, subst IsVectorOf (sym has.is) (record { one = refl; wide = has.wide }));
      wide = has.wide;
    })

-- an array's signal
module _ (numbers : (elements bits : ℕ) → NumbersElements elements bits) where
  pub array_is : (W : Env ℕ) (form : Option Form) (n : Option ℕ) → HasRowAt W form n → (w k : ℕ) → form_element form ≡ Some w → form_place form ≡ Some k → IsArrayAt W (or_zero n) w k
  array_is W None n has w k e f = nothing w e
  array_is W (Some form) None has w k e f = absurd has
  array_is W (Some (vector_form v)) (Some n) has w k e f = nothing w e
  array_is W (Some (array_form count v)) (Some n) has w k e f =
      let places = (numbers count k).0 f in
      let same : v ≡ w = some_same v w e in
      subst (λ (u : ℕ). IsArrayAt W n u k) same
      (record {
        inside = has.inside;
        is = has.is ∙ ap (λ (m : ℕ). replicate m v) places.2;
        wide = has.wide;
        places = (places.0, places.1);
      })

  nth_fits : (xs : List Bits) (n k : ℕ) → AllByRecursion (IsOf k) xs → n < length xs → FitsWidth k (nth_number xs n)
  nth_fits [] n k all within = absurd (omega arith)
  nth_fits (x ∷ xs) zero k all within = subst (λ (m : ℕ). FitsWidth m x.value) all.0.wide all.0.fits
  nth_fits (x ∷ xs) (suc n) k all within = nth_fits xs n k all.1 (omega arith)

  -- how many elements a form has
  abbrev pub form_count : Option Form → ℕ
  form_count None = 0
  form_count (Some (vector_form w)) = 1
  form_count (Some (array_form count w)) = count

  pub count_is : (form : Option Form) (k : ℕ) → form_place form ≡ Some k → form_count form ≡ 2 ^ k
  count_is None k e = nothing k e
  count_is (Some (vector_form w)) k e = nothing k e
  count_is (Some (array_form count w)) k e = ((numbers count k).0 e).2

  pub element_fits : (form : Option Form) (a : Option StateValue) → HasFormAt form a → (n : ℕ) → n < form_count form → (w : ℕ) → form_element form ≡ Some w → FitsWidth w (number_at a n)
  element_fits None a has n within w e = nothing w e
  element_fits (Some form) None has n within w e = absurd has
  element_fits (Some (vector_form v)) (Some a) has n within w e = nothing w e
  element_fits (Some (array_form count v)) (Some (One x)) has n within w e = absurd has
  element_fits (Some (array_form count v)) (Some (Many xs)) has n within w e =
      subst (λ (u : ℕ). FitsWidth u (nth_number xs n)) (some_same v w e) (nth_fits xs n v has.1 (subst (λ (m : ℕ). n < m) (sym has.0) within))

pub number_fits : (form : Option Form) (a : Option StateValue) → HasFormAt form a → (w : ℕ) → form_width form ≡ Some w → FitsWidth w (number_at a 0)
number_fits None a has w e = nothing w e
number_fits (Some form) None has w e = absurd has
number_fits (Some (array_form count v)) (Some a) has w e = nothing w e
number_fits (Some (vector_form v)) (Some (Many xs)) has w e = absurd has
number_fits (Some (vector_form v)) (Some (One x)) has w e = subst (λ (u : ℕ). FitsWidth u x.value) (has.wide ∙ some_same v w e) has.fits

-- what the signals hold
pub vector_held : (W N : Env ℕ) (form : Option Form) (a : Option StateValue) (n : Option ℕ) → HasFormAt form a → HoldsAt N a n → (w : ℕ) → form_width form ≡ Some w →
    flat.value W N (signal (or_zero n)) ≡ number_at a 0
vector_held W N None a n has holds w e = nothing w e
vector_held W N (Some form) None n has holds w e = absurd has
vector_held W N (Some form) (Some a) None has holds w e = absurd holds
vector_held W N (Some (array_form count v)) (Some a) (Some n) has holds w e = nothing w e
vector_held W N (Some (vector_form v)) (Some (Many xs)) (Some n) has holds w e = absurd has
vector_held W N (Some (vector_form v)) (Some (One x)) (Some n) has holds w e = ap (λ (l : List ℕ). get_or l 0 0) holds.1

some_other : (n : ℕ) → nat_eq (suc n) 0 ≡ false
some_other n = grind (arith, nat_tests)

nth_held : (xs : List Bits) (i : ℕ) → number_in (map number_of xs) i ≡ nth_number xs i
nth_held [] i = refl
nth_held (x ∷ xs) zero = refl
nth_held (x ∷ xs) (suc i) =
    let back : suc i - 1 ≡ i = omega arith in
    cond-false (nat_eq (suc i) 0) x.value (number_in (map number_of xs) (suc i - 1)) (some_other i) ∙ ap (number_in (map number_of xs)) back ∙ nth_held xs i

pub element_held : (N : Env ℕ) (form : Option Form) (a : Option StateValue) (n : Option ℕ) → HasFormAt form a → HoldsAt N a n → (w : ℕ) → form_element form ≡ Some w → (i : ℕ) →
    number_in (elements N (or_zero n)) i ≡ number_at a i
element_held N None a n has holds w e i = nothing w e
element_held N (Some form) None n has holds w e i = absurd has
element_held N (Some form) (Some a) None has holds w e i = absurd holds
element_held N (Some (vector_form v)) (Some a) (Some n) has holds w e i = nothing w e
element_held N (Some (array_form count v)) (Some (One x)) (Some n) has holds w e i = absurd has
element_held N (Some (array_form count v)) (Some (Many xs)) (Some n) has holds w e i = ap (λ (l : List ℕ). number_in l i) holds.1 ∙ nth_held xs i
