-- The steps of an expression make bits that mean its number, in every algebra.
use Rattle.std.proofs.Common.{◌≡◌, ℕ, zero, suc, ◌+◌, ◌-◌, ◌*◌, ◌/◌, ◌%◌, ◌^◌, ◌<◌, ◌≤◌, Bool, true, List, [], ◌∷◌, length, map, take, drop, replicate, get_or, Some, refl, sym, ◌∙◌, ap, ap₂, subst, arith}
use Rattle.std.specs.Prelude.{nat_eq}
use Rattle.std.specs.List.{AllByRecursion}
use Rattle.std.proofs.Math.ListN.{get_or-map}
use Rattle.std.proofs.lemmas.List.{length-take, length-drop, take-map, drop-map}
use Rattle.lola_bits.specs.Number.{number, slice_of}
use Rattle.lola_bits.specs.BitLists.{number_of}
use Rattle.lola_bits.proofs.All.{all_append, all_take, all_drop}
use Rattle.lola_bits.proofs.BitLists.{pow_more, number_take, number_drop, lowest}
use Rattle.lola_bits.proofs.Options.{some_same}
use Rattle.lola_alg.specs.Algebra.{Calls, Meaning, Stays, Answers, IsAlgebra}
use Rattle.lola_alg.specs.Means.{AreKnown, AreWide, number_at, MeansNumber, IsArray, number_in, op_width, op_works, op_number, Suits}
use Rattle.lola_alg.proofs.BitMeans.{into_made, stays_same}
use Rattle.lola_alg.proofs.Loops.{stays_then, stay_known}
use Rattle.lola_alg.proofs.WordMeans.{number_since}
use Rattle.lola_alg.proofs.ArrayMeans.{read_means}
use Rattle.lola_alg.proofs.OpMeans.{op_means}
use Rattle.lola_flat.specs.Tree.{ExprTree, number as constant, signal, from_outside, element, slice, join, repeat, apply, ExprTrees, no_expr, one_expr}
use Rattle.lola_flat.specs.Value.{Env, mapped, elements, vector, width, widths, value, values, Fits, AllFit, IsArrayOf, joined_all, sum_of}
use Rattle.lola_eval.specs.Steps.{number_step, lower_step, lowers_step, joined_bits}
use Rattle.lola_eval.specs.Means.{EnvKnown, numbers, MeansValue, MeansAll, MeansValues}
use Rattle.lola_eval.proofs.Joined.{joined_long, joined_number}
use Rattle.lola_eval.proofs.Kept.{elements_mapped, vector_mapped, number_stay, numbers_stay, env_known, env_stay, elements_known, vector_known, outer_known}

widths_all : {B : Type 0} (w : ℕ) (xs : List (List B)) → AllByRecursion (λ k. k ≡ w) (map length xs) → AreWide w xs
widths_all w [] all = tt
widths_all w (x ∷ xs) all = (all.0, widths_all w xs all.1)

module _ {D B : Type 0} (m : Meaning D B) where
  -- what was there
  kept_number : (d : D) (x : List B) (made : D × List B) (w : ℕ) (f : (ℕ → Bool) → ℕ) → AreKnown m d x → length x ≡ w → ((v : ℕ → Bool) → number_at m d v x ≡ f v) → Some (d, x) ≡ Some made →
      MeansNumber m d made.0 made.1 w f
  kept_number d x made w f known long means e = subst (λ n. MeansNumber m d n.0 n.1 w f) (some_same (d, x) made e) (record { stays = stays_same m d; known = known; long = long; means = means })

  -- since data before, in an equal width and with an equal number
  wide_since : (d e : D) (made : D × List B) (w u : ℕ) (f g : (ℕ → Bool) → ℕ) → Stays m d e → w ≡ u → ((v : ℕ → Bool) → f v ≡ g v) → MeansNumber m e made.0 made.1 w f → MeansNumber m d made.0 made.1 u g
  wide_since d e made w u f g stays same equal a = record { stays = stays_then m d e made.0 stays a.stays; known = a.known; long = a.long ∙ same; means = λ v. a.means v ∙ equal v }

  digit_made : (d : D) (one : D × B) (made : D × List B) (b : Bool) (w n : ℕ) → Answers m d one (λ v. b) → MeansNumber m one.0 made.0 made.1 w (λ v. n) →
      MeansNumber m d made.0 (one.1 ∷ made.1) (suc w) (λ v. number b + 2 * n)
  digit_made d one made b w n a r = record {
    stays = stays_then m d one.0 made.0 a.stays r.stays;
    known = ((r.stays one.1 a.known).0, r.known);
    long = ap suc r.long;
    means = λ v. ap₂ (λ x y. number x + 2 * y) ((r.stays one.1 a.known).1 v ∙ a.means v) (r.means v);
  }

  slice_means : (d : D) (x : List B) (d0 : D) (made : D × List B) (w high low : ℕ) (f : (ℕ → Bool) → ℕ) → MeansNumber m d0 d x w f → high < w → low ≤ high →
      Some (d, take (high - low + 1) (drop low x)) ≡ Some made → MeansNumber m d0 made.0 made.1 (high - low + 1) (λ v. slice_of (f v) high low)
  slice_means d x d0 made w high low f a inside order e =
      let k : ℕ = high - low + 1 in
      let long : length (take k (drop low x)) ≡ k = let p = length-take k (drop low x) in let q = length-drop low x in let r = a.long in p ∙ (omega arith) in
      let at : (v : ℕ → Bool) → number_at m d v (take k (drop low x)) ≡ slice_of (f v) high low =
      λ v. ap number_of (sym (take-map (m.value d v) k (drop low x)) ∙ ap (take k) (sym (drop-map (m.value d v) low x)))
      ∙ number_take k (drop low (map (m.value d v) x)) ∙ ap (λ n. n % 2 ^ k) (number_drop low (map (m.value d v) x)) ∙ ap (λ n. slice_of n high low) (a.means v) in
      wide_since d0 d made k k (λ v. slice_of (f v) high low) (λ v. slice_of (f v) high low) a.stays refl (λ v. refl)
      (kept_number d (take k (drop low x)) made k (λ v. slice_of (f v) high low) (all_take (λ b. m.knows d b ≡ true) k (drop low x) (all_drop (λ b. m.knows d b ≡ true) low x a.known)) long at e)

  joined_known : (d : D) (xs : List (List B)) → AllByRecursion (AreKnown m d) xs → AreKnown m d (joined_bits xs)
  joined_known d [] all = tt
  joined_known d (x ∷ xs) all = all_append (λ b. m.knows d b ≡ true) (joined_bits xs) x (joined_known d xs all.1) all.0

  join_means : (d0 d : D) (xs : List (List B)) (made : D × List B) (ws : List ℕ) (ns : (ℕ → Bool) → List ℕ) → MeansAll m d0 d xs ws ns → Some (d, joined_bits xs) ≡ Some made →
      MeansNumber m d0 made.0 made.1 (sum_of ws) (λ v. joined_all ws (ns v))
  join_means d0 d xs made ws ns a e =
      wide_since d0 d made (sum_of ws) (sum_of ws) (λ v. joined_all ws (ns v)) (λ v. joined_all ws (ns v)) a.stays refl (λ v. refl)
      (kept_number d (joined_bits xs) made (sum_of ws) (λ v. joined_all ws (ns v)) (joined_known d xs a.known) (joined_long xs ∙ ap sum_of a.long)
      (λ v. joined_number (m.value d v) xs ∙ ap₂ joined_all a.long (a.means v)) e)

  -- one vector several times
  same_all : (d0 d : D) (x : List B) (w : ℕ) (f : (ℕ → Bool) → ℕ) (times : ℕ) → MeansNumber m d0 d x w f → MeansAll m d0 d (replicate times x) (replicate times w) (λ v. replicate times (f v))
  same_all d0 d x w f zero a = record { stays = a.stays; known = tt; long = refl; means = λ v. refl }
  same_all d0 d x w f (suc times) a =
      let more = same_all d0 d x w f times a in
      record { stays = a.stays; known = (a.known, more.known); long = ap₂ (λ n ns. n ∷ ns) a.long more.long; means = λ v. ap₂ (λ n ns. n ∷ ns) (a.means v) (more.means v) }

module _ {D B : Type 0} (c : Calls D B) (m : Meaning D B) (law : IsAlgebra c m) where
  pub number_means : (w n : ℕ) (d : D) (made : D × List B) → n < 2 ^ w → number_step c w n d ≡ Some made → MeansNumber m d made.0 made.1 w (λ v. n)
  number_means zero n d made below e = kept_number m d [] made 0 (λ v. n) tt refl (λ v. omega arith) e
  number_means (suc w) n d made below e =
      let one = c.constant d (nat_eq (n % 2) 1) in
      let i = into_made (number_step c w (n / 2) one.0) _ made e in
      let p = pow_more w in
      let half : n / 2 < 2 ^ w = omega arith in
      let rest = number_means w (n / 2) one.0 i.0 half i.1.0 in
      let all = digit_made m d one i.0 (nat_eq (n % 2) 1) w (n / 2) (law.constant d (nat_eq (n % 2) 1)) rest in
      wide_since m d d made (suc w) (suc w) (λ v. number (nat_eq (n % 2) 1) + 2 * (n / 2)) (λ v. n) (stays_same m d) refl (λ v. lowest n)
      (subst (λ r. MeansNumber m d r.0 r.1 (suc w) (λ v. number (nat_eq (n % 2) 1) + 2 * (n / 2))) (some_same (i.0.0, one.1 ∷ i.0.1) made i.1.1) all)

  module _ (E : Env (List B)) where
    W : Env ℕ
    W = mapped length E

    pub array_of : (n : ℕ) (place : List B) (k : ℕ) → length place ≡ k → IsArrayOf (elements (mapped length E) n) k → IsArray (elements E n) place (vector 0 (mapped length E) n)
    array_of n place k long a =
        let ws : elements (mapped length E) n ≡ map length (elements E n) = elements_mapped length E n in
        record {
          wide = a.wide;
          places = subst (λ j. (1 ≤ j) × (j ≤ 10)) (sym long) a.places;
          count = sym (length-mapped (elements E n)) ∙ ap length (sym ws) ∙ a.count ∙ ap (λ j. 2 ^ j) (sym long);
          each = widths_all (vector 0 (mapped length E) n) (elements E n) (subst (AllByRecursion (λ w. w ≡ vector 0 (mapped length E) n)) ws a.each);
        }
      where
        length-mapped : (xs : List (List B)) → length (map length xs) ≡ length xs
        length-mapped [] = refl
        length-mapped (x ∷ xs) = ap suc (length-mapped xs)

    mutual
      pub lower_means : (t : ExprTree) (d : D) (made : D × List B) → Fits (mapped length E) t → EnvKnown m d E → lower_step c E t d ≡ Some made → MeansValue m E t d made
      lower_means (constant w n) d made fits known e = number_means w n d made fits.1 e
      lower_means (signal n) d made fits known e =
          kept_number m d (vector [] E n) made (vector 0 (mapped length E) n) (λ v. vector 0 (numbers m d v E) n) (vector_known m d E n known) (sym (vector_mapped length [] E n))
          (λ v. sym (vector_mapped (number_at m d v) [] E n)) e
      lower_means (from_outside n) d made fits known e =
          kept_number m d (get_or E.outside n []) made (get_or (map length E.outside) n 0) (λ v. get_or (map (number_at m d v) E.outside) n 0) (outer_known m d E n known)
          (sym (get_or-map length E.outside n [])) (λ v. sym (get_or-map (number_at m d v) E.outside n [])) e
      lower_means (element n place) d made fits known e =
          let i = into_made (lower_step c E place d) _ made e in
          let p = lower_means place d i.0 fits.1.1 known i.1.0 in
          let later = env_known m d i.0.0 E p.stays known in
          let r = read_means c m law (elements E n) i.0.1 (vector 0 (mapped length E) n) i.0.0 made (array_of n i.0.1 (width (mapped length E) place) p.long fits.1.0) (elements_known m i.0.0 E n later) p.known i.1.1 in
          number_since m d i.0.0 made (vector 0 (mapped length E) n) (λ v. number_in (map (number_at m i.0.0 v) (elements E n)) (number_at m i.0.0 v i.0.1))
          (λ v. number_in (elements (numbers m d v E) n) (value (mapped length E) (numbers m d v E) place)) p.stays
          (λ v. ap₂ number_in (numbers_stay m d i.0.0 (elements E n) p.stays (elements_known m d E n known) v ∙ sym (elements_mapped (number_at m d v) E n)) (p.means v)) r
      lower_means (slice of high low) d made fits known e =
          let i = into_made (lower_step c E of d) _ made e in
          let a = lower_means of d i.0 fits.1.1 known i.1.0 in
          slice_means m i.0.0 i.0.1 d made (width (mapped length E) of) high low (λ v. value (mapped length E) (numbers m d v E) of) a fits.0 fits.1.0 i.1.1
      lower_means (join parts) d made fits known e =
          let i = into_made (lowers_step c E parts d) _ made e in
          let a = lowers_means parts d i.0 fits.1 known i.1.0 in
          join_means m d i.0.0 i.0.1 made (widths (mapped length E) parts) (λ v. values (mapped length E) (numbers m d v E) parts) a i.1.1
      lower_means (repeat part times) d made fits known e =
          let i = into_made (lower_step c E part d) _ made e in
          let a = lower_means part d i.0 fits.1 known i.1.0 in
          let w : ℕ = width (mapped length E) part in
          join_means m d i.0.0 (replicate times i.0.1) made (replicate times w) (λ v. replicate times (value (mapped length E) (numbers m d v E) part))
          (same_all m d i.0.0 i.0.1 w (λ v. value (mapped length E) (numbers m d v E) part) times a) i.1.1
      lower_means (apply o args) d made fits known e =
          let i = into_made (lowers_step c E args d) _ made e in
          let a = lowers_means args d i.0 fits.1 known i.1.0 in
          let suits : Suits o (map length i.0.1) = subst (Suits o) (sym a.long) fits.0 in
          let r = op_means c m law o i.0.1 i.0.0 suits a.known made i.1.1 in
          wide_since m d i.0.0 made (op_width o (map length i.0.1)) (op_width o (widths (mapped length E) args))
          (λ v. op_number o (op_works o (map length i.0.1)) (map (number_at m i.0.0 v) i.0.1))
          (λ v. op_number o (op_works o (widths (mapped length E) args)) (values (mapped length E) (numbers m d v E) args)) a.stays (ap (op_width o) a.long)
          (λ v. ap₂ (λ ws ns. op_number o (op_works o ws) ns) a.long (a.means v)) r

      pub lowers_means : (ts : ExprTrees) (d : D) (made : D × List (List B)) → AllFit (mapped length E) ts → EnvKnown m d E → lowers_step c E ts d ≡ Some made → MeansValues m E ts d made
      lowers_means no_expr d made fits known e =
          subst (λ r. MeansAll m d r.0 r.1 [] (λ v. [])) (some_same (d, []) made e) (record { stays = stays_same m d; known = tt; long = refl; means = λ v. refl })
      lowers_means (one_expr t ts) d made fits known e =
          let i = into_made (lower_step c E t d) _ made e in
          let j = into_made (lowers_step c E ts i.0.0) _ made i.1.1 in
          let one = lower_means t d i.0 fits.0 known i.1.0 in
          let rest = lowers_means ts i.0.0 j.0 fits.1 (env_known m d i.0.0 E one.stays known) j.1.0 in
          let all : MeansAll m d j.0.0 (i.0.1 ∷ j.0.1) (widths (mapped length E) (one_expr t ts)) (λ v. values (mapped length E) (numbers m d v E) (one_expr t ts)) = record {
            stays = stays_then m d i.0.0 j.0.0 one.stays rest.stays;
            known = (stay_known m i.0.0 j.0.0 i.0.1 rest.stays one.known, rest.known);
            long = ap₂ (λ x xs. x ∷ xs) one.long rest.long;
            means = λ v. ap₂ (λ x xs. x ∷ xs) (number_stay m i.0.0 j.0.0 i.0.1 rest.stays one.known v ∙ one.means v)
                (rest.means v ∙ ap (λ N. values (mapped length E) N ts) (env_stay m d i.0.0 E one.stays known v));
          } in
          subst (λ r. MeansAll m d r.0 r.1 (widths (mapped length E) (one_expr t ts)) (λ v. values (mapped length E) (numbers m d v E) (one_expr t ts))) (some_same (j.0.0, i.0.1 ∷ j.0.1) made j.1.1) all
