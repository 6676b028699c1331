-- The steps that read and write an element of an array mean the number at a place, and the numbers with another there.
use Rattle.std.proofs.Common.{◌≡◌, ℕ, ◌+◌, ◌*◌, ◌/◌, ◌%◌, ◌^◌, ◌<◌, ◌≤◌, Bool, true, false, cond, not, ◌&&◌, List, [], ◌∷◌, map, length, nat_eq, Option, Some, refl, sym, ap, ap₂, subst, ◌∙◌, inl, inr, arith}
use Rattle.std.proofs.lemmas.List.{length-map}
use Rattle.std.proofs.lemmas.Bool.{cases_Bool, cond-true, cond-false}
use Rattle.std.specs.List.{AllByRecursion}
use Rattle.lola_bits.specs.BitLists.{number_of}
use Rattle.lola_bits.proofs.BitLists.{pow_more}
use Rattle.lola_bits.proofs.Options.{some_same}
use Rattle.lola_alg.specs.Algebra.{Calls, Meaning, Stays, Answers, IsAlgebra}
use Rattle.lola_alg.specs.Steps.{into, pairs_step, choose_step, halve_step, read_step, is_place_from, write_from}
use Rattle.lola_alg.specs.Means.{AreKnown, number_at, AreWide, MeansNumber, MeansNumbers, IsArray, number_in, with_number}
use Rattle.lola_alg.proofs.BitMeans.{into_made, Has, itself, has_later, made_has, stays_same, answers_since, kept_bit, both_answers, negated_answers}
use Rattle.lola_alg.proofs.Loops.{stays_then, stay_known}
use Rattle.lola_alg.proofs.ListMeans.{values, values_stay}
use Rattle.lola_alg.proofs.WordMeans.{number_since, choose_means, constant_has}
use Rattle.lola_alg.proofs.ArrayNumbers.{halve_of, halve_long, halve_number, place_of, place_number, written, written_is, with_long}

module _ {D B : Type 0} (m : Meaning D B) where
  abbrev pub AllKnown : D → List (List B) → Type 0
  AllKnown d elements = AllByRecursion (AreKnown m d) elements

  abbrev pub numbers : D → (ℕ → Bool) → List (List B) → List ℕ
  numbers d v elements = map (number_at m d v) elements

  all_stay : (d e : D) (elements : List (List B)) → Stays m d e → AllKnown d elements → AllKnown e elements
  all_stay d e [] stays known = tt
  all_stay d e (x ∷ xs) stays known = (stay_known m d e x stays known.0, all_stay d e xs stays known.1)

  number_stays : (d e : D) (x : List B) → Stays m d e → AreKnown m d x → (v : ℕ → Bool) → number_at m e v x ≡ number_at m d v x
  number_stays d e x stays known v = ap number_of (values_stay m d e x stays known v)

  numbers_stay : (d e : D) (elements : List (List B)) → Stays m d e → AllKnown d elements → (v : ℕ → Bool) → numbers e v elements ≡ numbers d v elements
  numbers_stay d e [] stays known v = refl
  numbers_stay d e (x ∷ xs) stays known v = ap₂ (λ n ns. n ∷ ns) (number_stays d e x stays known.0 v) (numbers_stay d e xs stays known.1 v)

  pub numbers_count : (before now : D) (elements : List (List B)) (width : ℕ) (value : (ℕ → Bool) → List ℕ) → MeansNumbers m before now elements width value →
      (v : ℕ → Bool) → length elements ≡ length (value v)
  numbers_count before now elements width value a v = sym (length-map elements (number_at m now v)) ∙ ap length (a.means v)

  numbers_since : (d e : D) (made : D × List (List B)) (width : ℕ) (f g : (ℕ → Bool) → List ℕ) → Stays m d e → ((v : ℕ → Bool) → f v ≡ g v) →
      MeansNumbers m e made.0 made.1 width f → MeansNumbers m d made.0 made.1 width g
  numbers_since d e made width f g stays same a =
      record { stays = stays_then m d e made.0 stays a.stays; known = a.known; wide = a.wide; means = λ v. a.means v ∙ same v }

  nothing_made : (d : D) (made : D × List (List B)) (width : ℕ) → Some (d, []) ≡ Some made → MeansNumbers m d made.0 made.1 width (λ v. [])
  nothing_made d made width e = subst (λ n. MeansNumbers m d n.0 n.1 width (λ v. [])) (some_same (d, []) made e) (record { stays = stays_same m d; known = tt; wide = tt; means = λ v. refl })

  -- an element, and then the rest
  one_more : (d : D) (first : D × List B) (made : D × List (List B)) (width : ℕ) (x : (ℕ → Bool) → ℕ) (xs : (ℕ → Bool) → List ℕ) →
      MeansNumber m d first.0 first.1 width x → MeansNumbers m first.0 made.0 made.1 width xs → MeansNumbers m d made.0 (first.1 ∷ made.1) width (λ v. x v ∷ xs v)
  one_more d first made width x xs a r = record {
    stays = stays_then m d first.0 made.0 a.stays r.stays;
    known = (stay_known m first.0 made.0 first.1 r.stays a.known, r.known);
    wide = (a.long, r.wide);
    means = λ v. ap₂ (λ n ns. n ∷ ns) (number_stays first.0 made.0 first.1 r.stays a.known v ∙ a.means v) (r.means v);
  }

module _ {D B : Type 0} (c : Calls D B) (m : Meaning D B) (law : IsAlgebra c m) where
  -- half of the elements mean half of the numbers
  halve_means : (b : B) (elements : List (List B)) (width : ℕ) (d : D) (made : D × List (List B)) → m.knows d b ≡ true → AllKnown m d elements → AreWide width elements → halve_step c b elements d ≡ Some made →
      MeansNumbers m d made.0 made.1 width (λ v. halve_of (m.value d v b) (numbers m d v elements))
  halve_means b [] width d made kb known wide e = nothing_made m d made width e
  halve_means b (x ∷ []) width d made kb known wide e = nothing_made m d made width e
  halve_means b (x ∷ y ∷ more) width d made kb known wide e =
      let i = into_made (pairs_step (choose_step c b) y x d) _ made e in
      let j = into_made (halve_step c b more i.0.0) _ made i.1.1 in
      let one = choose_means c m law b y x d i.0 (wide.0 ∙ sym wide.1.0) kb known.1.0 known.0 i.1.0 in
      let first : MeansNumber m d i.0.0 i.0.1 width (λ v. cond (m.value d v b) (number_at m d v y) (number_at m d v x)) =
      record { stays = one.stays; known = one.known; long = one.long ∙ wide.1.0; means = one.means } in
      let rest = halve_means b more width i.0.0 j.0 (one.stays b kb).0 (all_stay m d i.0.0 more one.stays known.1.1) wide.1.1 j.1.0 in
      let all = one_more m d i.0 j.0 width (λ v. cond (m.value d v b) (number_at m d v y) (number_at m d v x)) (λ v. halve_of (m.value i.0.0 v b) (numbers m i.0.0 v more)) first rest in
      let is : (j.0.0, i.0.1 ∷ j.0.1) ≡ made = some_same (j.0.0, i.0.1 ∷ j.0.1) made j.1.1 in
      subst (λ n. MeansNumbers m d n.0 n.1 width (λ v. halve_of (m.value d v b) (numbers m d v (x ∷ y ∷ more)))) is
      (numbers_since m d d (j.0.0, i.0.1 ∷ j.0.1) width (λ v. cond (m.value d v b) (number_at m d v y) (number_at m d v x) ∷ halve_of (m.value i.0.0 v b) (numbers m i.0.0 v more))
      (λ v. halve_of (m.value d v b) (numbers m d v (x ∷ y ∷ more))) (stays_same m d)
      (λ v. ap₂ (λ t ns. cond (m.value d v b) (number_at m d v y) (number_at m d v x) ∷ halve_of t ns) ((one.stays b kb).1 v) (numbers_stay m d i.0.0 more one.stays known.1.1 v)) all)

  -- halves by each bit of a place leave the element there
  element_means : (place : List B) (elements : List (List B)) (width : ℕ) (d : D) (made : D × List B) → length elements ≡ 2 ^ length place → AllKnown m d elements → AreWide width elements → AreKnown m d place →
      read_step c elements place d ≡ Some made → MeansNumber m d made.0 made.1 width (λ v. number_in (numbers m d v elements) (number_at m d v place))
  element_means [] [] width d made count known wide kp e = absurd (omega arith)
  element_means [] (x ∷ y ∷ more) width d made count known wide kp e = absurd (omega arith)
  element_means [] (x ∷ []) width d made count known wide kp e =
      subst (λ n. MeansNumber m d n.0 n.1 width (λ v. number_in (numbers m d v (x ∷ [])) 0)) (some_same (d, x) made e)
      (record { stays = stays_same m d; known = known.0; long = wide.0; means = λ v. refl })
  element_means (b ∷ bs) elements width d made count known wide kp e =
      let i = into_made (halve_step c b elements d) _ made e in
      let half = halve_means b elements width d i.0 kp.0 known wide i.1.0 in
      let v0 : ℕ → Bool = λ n. false in
      let double : length elements ≡ 2 * 2 ^ length bs = count ∙ pow_more (length bs) in
      let fewer : length i.0.1 ≡ 2 ^ length bs =
      numbers_count m d i.0.0 i.0.1 width (λ v. halve_of (m.value d v b) (numbers m d v elements)) half v0
      ∙ halve_long (m.value d v0 b) (2 ^ length bs) (numbers m d v0 elements) (length-map elements (number_at m d v0) ∙ double) in
      let rest = element_means bs i.0.1 width i.0.0 made fewer half.known half.wide (stay_known m d i.0.0 bs half.stays kp.1) i.1.1 in
      number_since m d i.0.0 made width (λ v. number_in (numbers m i.0.0 v i.0.1) (number_at m i.0.0 v bs)) (λ v. number_in (numbers m d v elements) (number_at m d v (b ∷ bs))) half.stays
      (λ v. ap₂ number_in (half.means v) (number_stays m d i.0.0 bs half.stays kp.1 v)
      ∙ halve_number (m.value d v b) (2 ^ length bs) (numbers m d v elements) (number_at m d v bs) (length-map elements (number_at m d v) ∙ double)) rest

  -- the element that is read is the one at the place
  pub read_means : (elements : List (List B)) (place : List B) (width : ℕ) (d : D) (made : D × List B) → IsArray elements place width → AllKnown m d elements → AreKnown m d place →
      read_step c elements place d ≡ Some made → MeansNumber m d made.0 made.1 width (λ v. number_in (map (number_at m d v) elements) (number_at m d v place))
  read_means elements place width d made array known kp e = element_means place elements width d made array.count known array.each kp e

  -- the bit says whether a place is a number, from one that says so far
  place_means : (bs : List B) (k : ℕ) (so : B) (w : (ℕ → Bool) → Bool) (d : D) (made : D × B) → AreKnown m d bs → Has m d so w → is_place_from c bs k so d ≡ Some made →
      Answers m d made (λ v. place_of (values m d v bs) k (w v))
  place_means [] k so w d made known h e = kept_bit m d so made w h e
  place_means (b ∷ bs) k so w d made known h e = elim (cases_Bool (nat_eq (k % 2) 1)) [
    | inl odd ↦ (
        let i = into_made (c.both d so b) (λ then g. is_place_from c bs (k / 2) then g) made (sym (cond-true (nat_eq (k % 2) 1) with_one with_zero odd) ∙ e) in
        let one = both_answers c m law d so b w (λ v. m.value d v b) i.0 h (itself m d b known.0) i.1.0 in
        let then : (ℕ → Bool) → Bool = λ v. w v && m.value d v b in
        let rest = place_means bs (k / 2) i.0.1 then i.0.0 made (stay_known m d i.0.0 bs one.stays known.1) (made_has m d i.0 then one) i.1.1 in
        answers_since m d i.0.0 made (λ v. place_of (values m i.0.0 v bs) (k / 2) (then v)) (λ v. place_of (values m d v (b ∷ bs)) k (w v)) one.stays
        (λ v. ap₂ (λ us t. place_of us (k / 2) t) (values_stay m d i.0.0 bs one.stays known.1 v) (sym (cond-true (nat_eq (k % 2) 1) (w v && m.value d v b) (w v && not (m.value d v b)) odd))) rest)
    | inr even ↦ (
        let n = c.negated d b in
        let i = into_made (c.both n.0 so n.1) (λ then g. is_place_from c bs (k / 2) then g) made (sym (cond-false (nat_eq (k % 2) 1) with_one with_zero even) ∙ e) in
        let no : Answers m d n (λ v. not (m.value d v b)) = negated_answers c m law d b (λ v. m.value d v b) (itself m d b known.0) in
        let then : (ℕ → Bool) → Bool = λ v. w v && not (m.value d v b) in
        let one : Answers m n.0 i.0 then = both_answers c m law n.0 so n.1 w (λ v. not (m.value d v b)) i.0 (has_later m d n.0 so w no.stays h) (made_has m d n (λ v. not (m.value d v b)) no) i.1.0 in
        let stays : Stays m d i.0.0 = stays_then m d n.0 i.0.0 no.stays one.stays in
        let rest = place_means bs (k / 2) i.0.1 then i.0.0 made (stay_known m d i.0.0 bs stays known.1) (made_has m n.0 i.0 then one) i.1.1 in
        answers_since m d i.0.0 made (λ v. place_of (values m i.0.0 v bs) (k / 2) (then v)) (λ v. place_of (values m d v (b ∷ bs)) k (w v)) stays
        (λ v. ap₂ (λ us t. place_of us (k / 2) t) (values_stay m d i.0.0 bs stays known.1 v) (sym (cond-false (nat_eq (k % 2) 1) (w v && m.value d v b) (w v && not (m.value d v b)) even))) rest)
  ]
    where
      with_one : Option (D × B)
      with_one = into (c.both d so b) (λ then g. is_place_from c bs (k / 2) then g)

      with_zero : Option (D × B)
      with_zero = into (c.both (c.negated d b).0 so (c.negated d b).1) (λ then g. is_place_from c bs (k / 2) then g)

  -- whether a place is a number below all places
  here_means : (place : List B) (k : ℕ) (d : D) (made : D × B) → k < 2 ^ length place → AreKnown m d place → is_place_from c place k (c.constant d true).1 (c.constant d true).0 ≡ Some made →
      Answers m d made (λ v. nat_eq (number_at m d v place) k)
  here_means place k d made below known e =
      let z = law.constant d true in
      let d1 : D = (c.constant d true).0 in
      answers_since m d d1 made (λ v. place_of (values m d1 v place) k true) (λ v. nat_eq (number_at m d v place) k) z.stays
      (λ v. ap (λ us. place_of us k true) (values_stay m d d1 place z.stays known v) ∙ place_number (values m d v place) k true (subst (λ l. k < 2 ^ l) (sym (length-map place (m.value d v))) below))
      (place_means place k (c.constant d true).1 (λ v. true) d1 made (stay_known m d d1 place z.stays known) (constant_has c m law d true) e)

  -- the elements from a number on
  elements_means : (place value : List B) (k : ℕ) (elements : List (List B)) (width : ℕ) (d : D) (made : D × List (List B)) → k + length elements ≤ 2 ^ length place → length value ≡ width →
      AreKnown m d place → AreKnown m d value → AllKnown m d elements → AreWide width elements → write_from c place value k elements d ≡ Some made →
      MeansNumbers m d made.0 made.1 width (λ v. written (number_at m d v place) (number_at m d v value) k (numbers m d v elements))
  elements_means place value k [] width d made count long kp kv known wide e = nothing_made m d made width e
  elements_means place value k (old ∷ more) width d made count long kp kv known wide e =
      let i = into_made (is_place_from c place k (c.constant d true).1 (c.constant d true).0) _ made e in
      let here = here_means place k d i.0 (omega arith) kp i.1.0 in
      let d1 : D = i.0.0 in
      let kv1 = stay_known m d d1 value here.stays kv in
      let ko1 = stay_known m d d1 old here.stays known.0 in
      let j = into_made (pairs_step (choose_step c i.0.1) value old d1) _ made i.1.1 in
      let one = choose_means c m law i.0.1 value old d1 j.0 (wide.0 ∙ sym long) here.known kv1 ko1 j.1.0 in
      let d2 : D = j.0.0 in
      let to2 : Stays m d d2 = stays_then m d d1 d2 here.stays one.stays in
      let first : MeansNumber m d d2 j.0.1 width (λ v. cond (nat_eq (number_at m d v place) k) (number_at m d v value) (number_at m d v old)) = record {
        stays = to2;
        known = one.known;
        long = one.long ∙ long;
        means = λ v. one.means v ∙ chosen v (here.means v) (number_stays m d d1 value here.stays kv v) (number_stays m d d1 old here.stays known.0 v);
      } in
      let r = into_made (write_from c place value (k + 1) more d2) _ made j.1.1 in
      let kp2 = stay_known m d d2 place to2 kp in
      let kv2 = stay_known m d d2 value to2 kv in
      let rest = elements_means place value (k + 1) more width d2 r.0 (omega arith) long kp2 kv2 (all_stay m d d2 more to2 known.1) wide.1 r.1.0 in
      let all = one_more m d j.0 r.0 width (λ v. cond (nat_eq (number_at m d v place) k) (number_at m d v value) (number_at m d v old))
      (λ v. written (number_at m d2 v place) (number_at m d2 v value) (k + 1) (numbers m d2 v more)) first rest in
      let is : (r.0.0, j.0.1 ∷ r.0.1) ≡ made = some_same (r.0.0, j.0.1 ∷ r.0.1) made r.1.1 in
      subst (λ n. MeansNumbers m d n.0 n.1 width (λ v. written (number_at m d v place) (number_at m d v value) k (numbers m d v (old ∷ more)))) is
      (numbers_since m d d (r.0.0, j.0.1 ∷ r.0.1) width
      (λ v. cond (nat_eq (number_at m d v place) k) (number_at m d v value) (number_at m d v old) ∷ written (number_at m d2 v place) (number_at m d2 v value) (k + 1) (numbers m d2 v more))
      (λ v. written (number_at m d v place) (number_at m d v value) k (numbers m d v (old ∷ more))) (stays_same m d)
      (λ v. same v (number_stays m d d2 place to2 kp v) (number_stays m d d2 value to2 kv v) (numbers_stay m d d2 more to2 known.1 v)) all)
    where
      chosen : (v : ℕ → Bool) {t : Bool} {x y : ℕ} → t ≡ nat_eq (number_at m d v place) k → x ≡ number_at m d v value → y ≡ number_at m d v old →
          cond t x y ≡ cond (nat_eq (number_at m d v place) k) (number_at m d v value) (number_at m d v old)
      chosen v p q r = cc

      same : (v : ℕ → Bool) {p y : ℕ} {ns : List ℕ} → p ≡ number_at m d v place → y ≡ number_at m d v value → ns ≡ numbers m d v more →
          (cond (nat_eq (number_at m d v place) k) (number_at m d v value) (number_at m d v old) ∷ written p y (k + 1) ns)
          ≡ (cond (nat_eq (number_at m d v place) k) (number_at m d v value) (number_at m d v old) ∷ written (number_at m d v place) (number_at m d v value) (k + 1) (numbers m d v more))
      same v p q r = cc

  -- the elements that are written mean the numbers with the value at the place
  pub write_means : (elements : List (List B)) (place value : List B) (width : ℕ) (d : D) (made : D × List (List B)) → IsArray elements place width → length value ≡ width → AllKnown m d elements →
      AreKnown m d place → AreKnown m d value → write_from c place value 0 elements d ≡ Some made →
      MeansNumbers m d made.0 made.1 width (λ v. with_number (map (number_at m d v) elements) (number_at m d v place) (number_at m d v value))
  write_means elements place value width d made array long known kp kv e =
      let count = array.count in
      numbers_since m d d made width (λ v. written (number_at m d v place) (number_at m d v value) 0 (numbers m d v elements))
      (λ v. with_number (map (number_at m d v) elements) (number_at m d v place) (number_at m d v value)) (stays_same m d)
      (λ v. written_is (number_at m d v place) (number_at m d v value) (numbers m d v elements))
      (elements_means place value 0 elements width d made (omega arith) long kp kv known array.each e)

  -- and they are an array for that place again
  pub write_array : (elements : List (List B)) (place value : List B) (width : ℕ) (d : D) (made : D × List (List B)) → IsArray elements place width → length value ≡ width → AllKnown m d elements →
      AreKnown m d place → AreKnown m d value → write_from c place value 0 elements d ≡ Some made → IsArray made.1 place width
  write_array elements place value width d made array long known kp kv e =
      let v : ℕ → Bool = λ n. false in
      let a = write_means elements place value width d made array long known kp kv e in
      record {
        wide = array.wide;
        places = array.places;
        count = numbers_count m d made.0 made.1 width (λ v. with_number (map (number_at m d v) elements) (number_at m d v place) (number_at m d v value)) a v
            ∙ (with_long (numbers m d v elements) (number_at m d v place) (number_at m d v value) ∙ (length-map elements (number_at m d v) ∙ array.count));
        each = a.wide;
      }
