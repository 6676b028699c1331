-- The elements of arrays, and whether two arrays are equal.
use Rattle.std.proofs.Common.{◌≡◌, ℕ, ◌^◌, ◌<◌, ◌≤◌, Bool, true, ◌&&◌, List, [], ◌∷◌, length, map, get_or, Option, Some, None, Result, refl, sym, ◌∙◌, ap, ap₂, subst, arith}
use Rattle.std.specs.Prelude.{nat_eq, IfSome, IfOk}
use Rattle.std.specs.Option.{unwrap_or}
use Rattle.std.proofs.Math.Bool.{and_assoc, and-true}
use Rattle.std.specs.List.{AllByRecursion}
use Rattle.std.proofs.lemmas.List.{length-map}
use Rattle.lola_bits.proofs.All.{all_mapped}
use Rattle.lola_bits.proofs.Options.{some_same}
use Rattle.lola_bits.proofs.Places.{any_default}
use Rattle.lola_alg.specs.Algebra.{Calls, Meaning, Stays, Answers, IsAlgebra}
use Rattle.lola_alg.specs.declared.algebra.AlgError.{AlgError}
use Rattle.lola_alg.specs.Steps.{equal_step, Went}
use Rattle.lola_alg.specs.Means.{IsWidth, AreWide, AreKnown, number_at, MeansNumbers, IsArray, with_number}
use Rattle.lola_alg.proofs.BitMeans.{into_made, Has, has_later, made_has, stays_same, answers_since, kept_bit, both_answers}
use Rattle.lola_alg.proofs.Loops.{stays_then, stay_known, stay_known_all}
use Rattle.lola_alg.proofs.WordMeans.{constant_has}
use Rattle.lola_alg.proofs.ArrayNumbers.{with_long}
use Rattle.lola_alg.proofs.ArrayMeans.{write_means, numbers_count}
use Rattle.lola_flat.specs.Tree.{ExprTree}
use Rattle.lola_flat.specs.Value.{Env, mapped, elements, width, value}
use Rattle.lola_flat.specs.Cycle.{next_elements}
use Rattle.lola_eval.specs.Steps.{lower_step, next_step}
use Rattle.lola_eval.specs.Means.{SuitsArray, EnvKnown, numbers}
use Rattle.lola_eval.proofs.Kept.{elements_mapped, number_stay, numbers_stay, env_known, env_stay, elements_known}
use Rattle.lola_eval.proofs.Means.{lower_means}
use Rattle.lola_eval.proofs.NextMeans.{if_went}
use Rattle.lola_checks.specs.Tree.{WriteTree, ElementsTree}
use Rattle.lola_checks.specs.Holds.{behind_write, elements_value, same_numbers}
use Rattle.lola_checks.specs.Suits.{WriteSuits, ElementsSuit, ArraysAlike, ArePairs}
use Rattle.lola_checks.specs.Steps.{write_step, elements_step, same_from, same_step}
use Rattle.lola_checks.specs.Means.{MeansElements}
use Rattle.lola_checks.proofs.CompareMeans.{alike_answers}

-- a write suits elements as it suits their widths
pub suits_array : {B : Type 0} (E : Env (List B)) (wide count : ℕ) (old : List (List B)) (w : WriteTree) → IsWidth wide → AreWide wide old → length old ≡ count → WriteSuits (mapped length E) wide count w →
    SuitsArray E w.place w.value old
suits_array E wide count old w is each long s = record {
  place_fits = s.place_fits;
  value_fits = s.value_fits;
  wide = subst IsWidth (sym s.same) is;
  places = s.places;
  count = long ∙ s.elements;
  each = subst (λ k. AreWide k old) (sym s.same) each;
}

-- the elements of an array in the table
pub table_wide : {B : Type 0} (E : Env (List B)) (wide count : ℕ) (e : ElementsTree) → ElementsSuit (mapped length E) wide count e → AreWide wide (elements E e.array)
table_wide E wide count e s = all_mapped (λ k. k ≡ wide) length (elements E e.array) (subst (AllByRecursion (λ k. k ≡ wide)) (elements_mapped length E e.array) s.each)

pub table_long : {B : Type 0} (E : Env (List B)) (wide count : ℕ) (e : ElementsTree) → ElementsSuit (mapped length E) wide count e → length (elements E e.array) ≡ count
table_long E wide count e s = sym (length-map (elements E e.array) length) ∙ ap length (sym (elements_mapped length E e.array)) ∙ s.long

pub array_suits : {B : Type 0} (E : Env (List B)) (wide count : ℕ) (e : ElementsTree) → ElementsSuit (mapped length E) wide count e → IfSome e.write (λ w. SuitsArray E w.place w.value (elements E e.array))
array_suits E wide count e s = by e.write s.write
  where
    by : (write : Option WriteTree) → IfSome write (WriteSuits (mapped length E) wide count) → IfSome write (λ w. SuitsArray E w.place w.value (elements E e.array))
    by None h = tt
    by (Some w) h = suits_array E wide count (elements E e.array) w s.is_width (table_wide E wide count e s) (table_long E wide count e s) h

module _ {D B : Type 0} (c : Calls D B) (m : Meaning D B) (law : IsAlgebra c m) (E : Env (List B)) where
  written_means : (p e : ExprTree) (old : List (List B)) (d : D) (made : D × List (List B)) → SuitsArray E p e old → EnvKnown m d E → AllByRecursion (AreKnown m d) old → next_step c E (Some p) (Some e) old d ≡ Some made →
      MeansNumbers m d made.0 made.1 (width (mapped length E) e) (λ v. next_elements (mapped length E) (numbers m d v E) (Some p) (Some e) (map (number_at m d v) old))
  written_means p e old d made suits known old_known is =
      let i = into_made (lower_step c E p d) _ made is in
      let a = lower_means c m law E p d i.0 suits.place_fits known i.1.0 in
      let j = into_made (lower_step c E e i.0.0) _ made i.1.1 in
      let b = lower_means c m law E e i.0.0 j.0 suits.value_fits (env_known m d i.0.0 E a.stays known) j.1.0 in
      let stays : Stays m d j.0.0 = stays_then m d i.0.0 j.0.0 a.stays b.stays in
      let array : IsArray old i.0.1 (width (mapped length E) e) = record {
        wide = suits.wide;
        places = subst (λ k. (1 ≤ k) × (k ≤ 10)) (sym a.long) suits.places;
        count = suits.count ∙ ap (λ k. 2 ^ k) (sym a.long);
        each = suits.each;
      } in
      let w = write_means c m law old i.0.1 j.0.1 (width (mapped length E) e) j.0.0 made array b.long (stay_known_all m d j.0.0 old stays old_known) (stay_known m i.0.0 j.0.0 i.0.1 b.stays a.known) b.known j.1.1 in
      let same : (v : ℕ → Bool) → with_number (map (number_at m j.0.0 v) old) (number_at m j.0.0 v i.0.1) (number_at m j.0.0 v j.0.1)
      ≡ with_number (map (number_at m d v) old) (value (mapped length E) (numbers m d v E) p) (value (mapped length E) (numbers m d v E) e) =
      λ v. ap₂ (λ ns k. with_number ns k (number_at m j.0.0 v j.0.1)) (numbers_stay m d j.0.0 old stays old_known v) (number_stay m i.0.0 j.0.0 i.0.1 b.stays a.known v ∙ a.means v)
      ∙ ap (with_number (map (number_at m d v) old) (value (mapped length E) (numbers m d v E) p)) (b.means v ∙ ap (λ N. value (mapped length E) N e) (env_stay m d i.0.0 E a.stays known v)) in
      record { stays = stays_then m d j.0.0 made.0 stays w.stays; known = w.known; wide = w.wide; means = λ v. w.means v ∙ same v }

  -- vectors behind a write, or as they stood
  behind_means : (write : Option WriteTree) (old : List (List B)) (wide count : ℕ) (d : D) (made : D × List (List B)) → IsWidth wide → AreWide wide old → length old ≡ count → AllByRecursion (AreKnown m d) old →
      IfSome write (WriteSuits (mapped length E) wide count) → EnvKnown m d E → write_step c E write old d ≡ Some made →
      MeansNumbers m d made.0 made.1 wide (λ v. behind_write (mapped length E) (numbers m d v E) write (map (number_at m d v) old)) × (length made.1 ≡ count)
  behind_means None old wide count d made is each long old_known suits known e =
      subst (λ (r : D × List (List B)). MeansNumbers m d r.0 r.1 wide (λ v. map (number_at m d v) old) × (length r.1 ≡ count)) (some_same (d, old) made e)
      (record { stays = stays_same m d; known = old_known; wide = each; means = λ v. refl }, long)
  behind_means (Some w) old wide count d made is each long old_known suits known e =
      let a = written_means w.place w.value old d made (suits_array E wide count old w is each long suits) known old_known e in
      let v : ℕ → Bool = λ n. true in (
        record { stays = a.stays; known = a.known; wide = subst (λ k. AreWide k made.1) suits.same a.wide; means = a.means },
        numbers_count m d made.0 made.1 (width (mapped length E) w.value) (λ u. next_elements (mapped length E) (numbers m d u E) (Some w.place) (Some w.value) (map (number_at m d u) old)) a v
            ∙ (with_long (map (number_at m d v) old) (value (mapped length E) (numbers m d v E) w.place) (value (mapped length E) (numbers m d v E) w.value) ∙ (length-map old (number_at m d v) ∙ long)),
      )

  pub elements_means : (e : ElementsTree) (wide count : ℕ) (d : D) (made : D × List (List B)) → ElementsSuit (mapped length E) wide count e → EnvKnown m d E → elements_step c E e d ≡ Some made →
      MeansElements m E e wide count d made.0 made.1
  elements_means e wide count d made s known is =
      let a = behind_means e.write (elements E e.array) wide count d made s.is_width (table_wide E wide count e s) (table_long E wide count e s) (elements_known m d E e.array known) s.write known is in
      record {
        numbers = record {
          stays = a.0.stays;
          known = a.0.known;
          wide = a.0.wide;
          means = λ v. a.0.means v ∙ ap (behind_write (mapped length E) (numbers m d v E) e.write) (sym (elements_mapped (number_at m d v) E e.array));
        };
        long = a.1;
      }

module _ {D B : Type 0} (c : Calls D B) (m : Meaning D B) (law : IsAlgebra c m) where
  -- elements one after another, and a bit so far
  from_means : (xs ys : List (List B)) (so : B) (w : (ℕ → Bool) → Bool) (wide : ℕ) (d : D) (made : D × B) → AreWide wide xs → AreWide wide ys → length ys ≡ length xs → AllByRecursion (AreKnown m d) xs → AllByRecursion (AreKnown m d) ys →
      Has m d so w → same_from c xs ys so d ≡ Some made → Answers m d made (λ v. w v && same_numbers (map (number_at m d v) xs) (map (number_at m d v) ys))
  from_means [] [] so w wide d made p q long kx ky h e = answers_since m d d made w (λ v. w v && true) (stays_same m d) (λ v. sym (and-true (w v))) (kept_bit m d so made w h e)
  from_means [] (y ∷ ys) so w wide d made p q long kx ky h e = absurd (omega arith)
  from_means (x ∷ xs) [] so w wide d made p q long kx ky h e = absurd (omega arith)
  from_means (x ∷ xs) (y ∷ ys) so w wide d made p q long kx ky h e =
      let i = into_made (equal_step c x y d) _ made e in
      let j = into_made (c.both i.0.0 so i.0.1) _ made i.1.1 in
      let f : (ℕ → Bool) → Bool = λ v. nat_eq (number_at m d v x) (number_at m d v y) in
      let a = alike_answers c m law x y d i.0 (q.0 ∙ sym p.0) kx.0 ky.0 i.1.0 in
      let b = both_answers c m law i.0.0 so i.0.1 w f j.0 (has_later m d i.0.0 so w a.stays h) (made_has m d i.0 f a) j.1.0 in
      let stays : Stays m d j.0.0 = stays_then m d i.0.0 j.0.0 a.stays b.stays in
      let rest = from_means xs ys j.0.1 (λ v. w v && f v) wide j.0.0 made p.1 q.1 (omega arith) (stay_known_all m d j.0.0 xs stays kx.1) (stay_known_all m d j.0.0 ys stays ky.1) (made_has m i.0.0 j.0 (λ v. w v && f v) b) j.1.1 in
      answers_since m d j.0.0 made (λ v. (w v && f v) && same_numbers (map (number_at m j.0.0 v) xs) (map (number_at m j.0.0 v) ys))
      (λ v. w v && same_numbers (map (number_at m d v) (x ∷ xs)) (map (number_at m d v) (y ∷ ys))) stays
      (λ v. and_assoc (w v) (f v) (same_numbers (map (number_at m j.0.0 v) xs) (map (number_at m j.0.0 v) ys))
      ∙ ap₂ (λ ns ks. w v && (f v && same_numbers ns ks)) (numbers_stay m d j.0.0 xs stays kx.1 v) (numbers_stay m d j.0.0 ys stays ky.1 v)) rest

  -- two arrays
  pub same_means : (E : Env (List B)) (l r : ElementsTree) (d : D) (made : D × B) → ArraysAlike (mapped length E) l r → EnvKnown m d E → same_step c E l r d ≡ Some made →
      Answers m d made (λ v. same_numbers (elements_value (mapped length E) (numbers m d v E) l) (elements_value (mapped length E) (numbers m d v E) r))
  same_means E l r d made s known e =
      let i = into_made (elements_step c E l d) _ made e in
      let a = elements_means c m law E l s.wide s.count d i.0 s.left_suits known i.1.0 in
      let j = into_made (elements_step c E r i.0.0) _ made i.1.1 in
      let b = elements_means c m law E r s.wide s.count i.0.0 j.0 s.right_suits (env_known m d i.0.0 E a.numbers.stays known) j.1.0 in
      let one = law.constant j.0.0 true in
      let o : D = (c.constant j.0.0 true).0 in
      let to_o : Stays m i.0.0 o = stays_then m i.0.0 j.0.0 o b.numbers.stays one.stays in
      let q = from_means i.0.1 j.0.1 (c.constant j.0.0 true).1 (λ v. true) s.wide o made a.numbers.wide b.numbers.wide (b.long ∙ sym a.long)
      (stay_known_all m i.0.0 o i.0.1 to_o a.numbers.known) (stay_known_all m j.0.0 o j.0.1 one.stays b.numbers.known) (constant_has c m law j.0.0 true) j.1.1 in
      answers_since m d o made (λ v. same_numbers (map (number_at m o v) i.0.1) (map (number_at m o v) j.0.1))
      (λ v. same_numbers (elements_value (mapped length E) (numbers m d v E) l) (elements_value (mapped length E) (numbers m d v E) r)) (stays_then m d i.0.0 o a.numbers.stays to_o)
      (λ v. ap₂ same_numbers (numbers_stay m i.0.0 o i.0.1 to_o a.numbers.known v ∙ a.numbers.means v)
      (numbers_stay m j.0.0 o j.0.1 one.stays b.numbers.known v ∙ b.numbers.means v ∙ ap (λ N. elements_value (mapped length E) N r) (env_stay m d i.0.0 E a.numbers.stays known v))) q

-- the elements of an array as a slice of the table has them
pub old_is : {B : Type 0} (E : Env (List B)) (wide count : ℕ) (e : ElementsTree) (x now : List (List B)) → ElementsSuit (mapped length E) wide count e → x ≡ get_or E.signals e.array x → now ≡ x → now ≡ elements E e.array
old_is E wide count e x now s is same = same ∙ any_default E.signals e.array x [] (subst (λ n. e.array < n) (length-map E.signals (map length)) s.there) is

module _ {D B : Type 0} (c : Calls D B) where
  -- what is made of a slice is made of the table
  pub table_went : (E : Env (List B)) (e : ElementsTree) (d now : D) (old : List (List B)) (result : Result (Option (List (List B))) AlgError) → old ≡ elements E e.array →
      Went (λ made. unwrap_or made old) (write_step c E e.write old d) now result → Went (λ made. unwrap_or made (elements E e.array)) (elements_step c E e d) now result
  table_went E e d now old result is went = subst (λ xs. Went (λ made. unwrap_or made xs) (write_step c E e.write xs d) now result) is went

  pub elements_went : (m : Meaning D B) → IsAlgebra c m → (E : Env (List B)) (e : ElementsTree) (wide count : ℕ) (d now : D) (result : Result (Option (List (List B))) AlgError) → ElementsSuit (mapped length E) wide count e → EnvKnown m d E →
      Went (λ made. unwrap_or made (elements E e.array)) (elements_step c E e d) now result → IfOk result (λ made. MeansElements m E e wide count d now (unwrap_or made (elements E e.array)))
  elements_went m law E e wide count d now result s known went =
      if_went (λ made. unwrap_or made (elements E e.array)) (elements_step c E e d) now result (λ made. MeansElements m E e wide count d now (unwrap_or made (elements E e.array))) went
      (λ made is. elements_means c m law E e wide count d (now, unwrap_or made (elements E e.array)) s known is)

-- two arrays that were made are compared in pairs
pub are_pairs : {D B : Type 0} (m : Meaning D B) (E : Env (List B)) (l r : ElementsTree) (d e f : D) (xs ys us vs : List (List B)) (s : ArraysAlike (mapped length E) l r) → us ≡ xs → vs ≡ ys →
    MeansElements m E l s.wide s.count d e xs → MeansElements m E r s.wide s.count e f ys → ArePairs us vs
are_pairs m E l r d e f xs ys us vs s first second a b =
    subst (λ zs. ArePairs zs vs) (sym first) (subst (ArePairs xs) (sym second) (record {
      wide = s.wide;
      is_width = s.left_suits.is_width;
      left_wide = a.numbers.wide;
      right_wide = b.numbers.wide;
      count = b.long ∙ sym a.long;
    }))
