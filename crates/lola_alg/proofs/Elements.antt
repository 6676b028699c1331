-- Arrays, element by element.
use Rattle.std.proofs.Common.{◌≡◌, ℕ, zero, suc, ◌+◌, ◌*◌, ◌/◌, ◌<◌, ◌≤◌, List, [], ◌∷◌, ◌++◌, length, drop, get_or, true, Option, Some, None, refl, sym, ap, subst, ◌∙◌, arith, append-nil, length-drop}
use Rattle.std.proofs.lemmas.List.{drop_more}
use Rattle.lola_bits.proofs.All.{all_append}
use Rattle.lola_alg.specs.declared.algebra.AlgError.{AlgError}
use Rattle.lola_alg.specs.declared.algebra.AlgError.TheVariants.{Full, Memory}
use Rattle.lola_alg.specs.Algebra.{Calls}
use Rattle.lola_alg.specs.Steps.{Step, into, pairs_step, choose_step, halve_step, read_step, is_place_from, write_from}
use Rattle.lola_alg.specs.Means.{AreWide}
use Rattle.lola_alg.specs.Gates.{write_here}
use Rattle.lola_alg.specs.Loops.{GoesOn}
use Rattle.lola_alg.proofs.Loops.{goes_on_more}

-- where one of the steps has no place, all of them have none
abbrev pub FailsWith : {D X : Type 0} → Option (D × X) → AlgError → Type 0
FailsWith should Full = should ≡ None
FailsWith should Memory = Unit {0}

pub fails_on : {D X Y : Type 0} (should : Option (D × X)) (should' : Option (D × Y)) (error : AlgError) → (should ≡ None → should' ≡ None) → FailsWith should error → FailsWith should' error
fails_on should should' Full f e = f e
fails_on should should' Memory f e = tt

-- steps in a row, however they are grouped
into_into : {D X Y Z : Type 0} (o : Option (D × X)) (f : X → Step D Y) (g : Y → Step D Z) → into o (λ x d. into (f x d) g) ≡ into (into o f) g
into_into None f g = refl
into_into (Some made) f g = refl

-- two elements at a place
cut_two : {X : Type 0} (xs : List X) (at : ℕ) (x y : X) → 2 * at + 1 < length xs → x ≡ get_or xs (2 * at) x → y ≡ get_or xs (2 * at + 1) y → drop (2 * at) xs ≡ x ∷ y ∷ drop (2 * (at + 1)) xs
cut_two xs at x y within is is' =
    let first = drop_more xs (2 * at) x (omega arith) ∙ ap (λ z. z ∷ drop (2 * at + 1) xs) (sym is) in
    let second = drop_more xs (2 * at + 1) y within ∙ ap (λ z. z ∷ drop (2 * at + 1 + 1) xs) (sym is') in
    let place : 2 * at + 1 + 1 ≡ 2 * (at + 1) = omega arith in
    first ∙ (ap (λ zs. x ∷ zs) second ∙ ap (λ n. x ∷ y ∷ drop n xs) place)

module _ {D B : Type 0} (c : Calls D B) (b : B) (elements : List (List B)) (at : ℕ) (x y : List B) (before : D) (made : List (List B)) (whole : Option (D × List (List B))) where
  pub halve_more : (now : D) (z : List B) → 2 * at + 1 < length elements → x ≡ get_or elements (2 * at) x → y ≡ get_or elements (2 * at + 1) y →
      pairs_step (choose_step c b) y x before ≡ Some (now, z) → GoesOn whole made (halve_step c b (drop (2 * at) elements) before) → (items : List (List B)) → items ≡ made ++ z ∷ [] →
      GoesOn whole items (halve_step c b (drop (2 * (at + 1)) elements) now)
  halve_more now z within is is' step e items all =
      let rest = drop (2 * (at + 1)) elements in
      let first : halve_step c b (drop (2 * at) elements) before ≡ into (Some (now, z)) (λ q d. into (halve_step c b rest d) (λ zs g. Some (g, q ∷ zs))) =
      ap (λ es. halve_step c b es before) (cut_two elements at x y within is is') ∙ ap (λ o. into o (λ q d. into (halve_step c b rest d) (λ zs g. Some (g, q ∷ zs)))) step in
      subst (λ is. GoesOn whole is (halve_step c b rest now)) (sym all) (goes_on_more whole made z (halve_step c b rest now) (subst (GoesOn whole made) first e))

  pub halve_fails : 2 * at + 1 < length elements → x ≡ get_or elements (2 * at) x → y ≡ get_or elements (2 * at + 1) y → pairs_step (choose_step c b) y x before ≡ None →
      GoesOn whole made (halve_step c b (drop (2 * at) elements) before) → whole ≡ None
  halve_fails within is is' none e =
      let rest = drop (2 * (at + 1)) elements in
      let first : halve_step c b (drop (2 * at) elements) before ≡ None =
      ap (λ es. halve_step c b es before) (cut_two elements at x y within is is') ∙ ap (λ o. into o (λ q d. into (halve_step c b rest d) (λ zs g. Some (g, q ∷ zs)))) none in
      e ∙ ap (λ o. into o (λ more d. Some (d, made ++ more))) first

-- fewer than two elements are no half
halve_few : {D B : Type 0} (c : Calls D B) (b : B) (rest : List (List B)) (d : D) → length rest ≤ 1 → halve_step c b rest d ≡ Some (d, [])
halve_few c b [] d few = refl
halve_few c b (x ∷ []) d few = refl
halve_few c b (x ∷ y ∷ more) d few = absurd (omega arith)

pub halve_done : {D B : Type 0} (c : Calls D B) (b : B) (elements : List (List B)) (at : ℕ) (d : D) (made : List (List B)) (whole : Option (D × List (List B))) → length elements / 2 ≤ at →
    GoesOn whole made (halve_step c b (drop (2 * at) elements) d) → whole ≡ Some (d, made)
halve_done c b elements at d made whole done e =
    let long = length-drop (2 * at) elements in
    let few : length (drop (2 * at) elements) ≤ 1 = omega arith in
    e ∙ (ap (λ o. into o (λ more f. Some (f, made ++ more))) (halve_few c b (drop (2 * at) elements) d few) ∙ ap (λ xs. Some (d, xs)) (append-nil made))

-- an element of a list of this width has it
wide_at : {B : Type 0} (width : ℕ) (elements : List (List B)) (at : ℕ) (e : List B) → at < length elements → e ≡ get_or elements at e → AreWide width elements → length e ≡ width
wide_at width [] at e within is all = absurd (omega arith)
wide_at width (x ∷ elements) zero e within is all = ap length is ∙ all.0
wide_at width (x ∷ elements) (suc at) e within is all = wide_at width elements at e (omega arith) is all.1

pub wide_more : {B : Type 0} (width : ℕ) (elements : List (List B)) (at : ℕ) (e : List B) (made : List (List B)) (z : List B) → at < length elements → e ≡ get_or elements at e →
    AreWide width elements → length z ≡ length e → AreWide width made → (items : List (List B)) → items ≡ made ++ z ∷ [] → AreWide width items
wide_more width elements at e made z within is all long before items same = subst (AreWide width) (sym same) (all_append (λ e. length e ≡ width) made (z ∷ []) before (long ∙ wide_at width elements at e within is all, tt))

-- one more element is written
pub write_more : {D B : Type 0} (c : Calls D B) (place value : List B) (elements : List (List B)) (at : ℕ) (old : List B) (before now : D) (made : List (List B)) (whole : Option (D × List (List B)))
    (z : List B) → at < length elements → old ≡ get_or elements at old → write_here c place value at old before ≡ Some (now, z) →
    GoesOn whole made (write_from c place value at (drop at elements) before) → (items : List (List B)) → items ≡ made ++ z ∷ [] →
    GoesOn whole items (write_from c place value (at + 1) (drop (at + 1) elements) now)
write_more c place value elements at old before now made whole z within is step e items all =
    let rest = drop (at + 1) elements in
    let list : drop at elements ≡ old ∷ rest = drop_more elements at old within ∙ ap (λ x. x ∷ rest) (sym is) in
    let one = c.constant before true in
    let first : write_from c place value at (drop at elements) before ≡ into (Some (now, z)) (λ new f. into (write_from c place value (at + 1) rest f) (λ zs g. Some (g, new ∷ zs))) =
    ap (λ es. write_from c place value at es before) list
    ∙ (into_into (is_place_from c place at one.1 one.0) (λ here d. pairs_step (choose_step c here) value old d) (λ new f. into (write_from c place value (at + 1) rest f) (λ zs g. Some (g, new ∷ zs)))
    ∙ ap (λ o. into o (λ new f. into (write_from c place value (at + 1) rest f) (λ zs g. Some (g, new ∷ zs)))) step) in
    subst (λ is. GoesOn whole is (write_from c place value (at + 1) rest now)) (sym all) (goes_on_more whole made z (write_from c place value (at + 1) rest now) (subst (GoesOn whole made) first e))

-- an array is narrowed by one more bit of the place
pub read_more : {D B : Type 0} (c : Calls D B) (level half : List (List B)) (place : List B) (at : ℕ) (b : B) (before now : D) (whole : Option (D × List B)) → at < length place → b ≡ get_or place at b →
    halve_step c b level before ≡ Some (now, half) → whole ≡ read_step c level (drop at place) before → whole ≡ read_step c half (drop (at + 1) place) now
read_more c level half place at b before now whole within is step e =
    let list : drop at place ≡ b ∷ drop (at + 1) place = drop_more place at b within ∙ ap (λ x. x ∷ drop (at + 1) place) (sym is) in
    e ∙ (ap (λ bs. read_step c level bs before) list ∙ ap (λ o. into o (λ h f. read_step c h (drop (at + 1) place) f)) step)

pub read_fails : {D B : Type 0} (c : Calls D B) (level : List (List B)) (place : List B) (at : ℕ) (b : B) (before : D) (whole : Option (D × List B)) → at < length place → b ≡ get_or place at b →
    halve_step c b level before ≡ None → whole ≡ read_step c level (drop at place) before → whole ≡ None
read_fails c level place at b before whole within is none e =
    let list : drop at place ≡ b ∷ drop (at + 1) place = drop_more place at b within ∙ ap (λ x. x ∷ drop (at + 1) place) (sym is) in
    e ∙ (ap (λ bs. read_step c level bs before) list ∙ ap (λ o. into o (λ h f. read_step c h (drop (at + 1) place) f)) none)
