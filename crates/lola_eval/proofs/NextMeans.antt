-- The next value of a register: its steps suit the table of the signals, and mean the numbers of the design.
use Rattle.std.proofs.Common.{◌≡◌, ℕ, zero, suc, ◌-◌, ◌^◌, ◌≤◌, Bool, true, false, cond, List, [], ◌∷◌, length, map, replicate, get_or, Option, Some, None, inl, refl, sym, ◌∙◌, ap, ap₂, subst, arith}
use Rattle.std.specs.Prelude.{nat_eq, IfSome, IfOk, Result, Ok, Err}
use Rattle.std.specs.List.{AllByRecursion}
use Rattle.std.proofs.lemmas.List.{length-map, length-replicate}
use Rattle.lola_bits.specs.Lists.{IsIn}
use Rattle.lola_bits.proofs.All.{all_of, of_all}
use Rattle.lola_bits.proofs.Lists.{in_front, in_back, to_map}
use Rattle.lola_bits.proofs.Options.{some_same}
use Rattle.lola_alg.specs.Algebra.{Calls, Meaning, Stays, IsAlgebra}
use Rattle.lola_alg.specs.declared.algebra.AlgError.{AlgError}
use Rattle.lola_alg.specs.declared.algebra.AlgError.TheVariants.{Full, Memory}
use Rattle.lola_alg.specs.Gates.{KeptArray}
use Rattle.lola_alg.specs.Steps.{Went}
use Rattle.lola_alg.specs.Means.{IsWidth, AreWide, AreKnown, number_at, MeansNumbers, IsArray, with_number}
use Rattle.lola_alg.proofs.BitMeans.{into_made}
use Rattle.lola_alg.proofs.Loops.{stays_then, stay_known, stay_known_all}
use Rattle.lola_alg.proofs.ArrayMeans.{write_means}
use Rattle.lola_flat.specs.declared.design.SigKind.{SigKind}
use Rattle.lola_flat.specs.declared.design.SigKind.TheVariants.{Input, Pad, Wire, Register}
use Rattle.lola_flat.specs.Tree.{ExprTree, SignalTree, FlatTree}
use Rattle.lola_flat.specs.Value.{Env, mapped, width, value, Fits, Read, vector_of, array_of, outside_of, reads}
use Rattle.lola_flat.specs.Signals.{IsSignal, widths_of, there, expressions, number_read, HaveSame, IsClock}
use Rattle.lola_flat.specs.Formed.{IsKind, HasClock, CountFits, EquationFits, NotOutside, OutsideFits, ReadFits, EquationSuits, PlaceSuits, IsFormed}
use Rattle.lola_flat.specs.Cycle.{next_elements, IsNextOf}
use Rattle.lola_flat.proofs.SameReads.{width_same, value_same, fits_same}
use Rattle.lola_eval.specs.Steps.{lower_step, next_step}
use Rattle.lola_eval.specs.Means.{IsWideAs, AreSignalBits, SuitsArray, SuitsNext, EnvKnown, numbers, MeansNext, MeansBehind}
use Rattle.lola_eval.proofs.Kept.{elements_mapped, numbers_stay, number_stay, env_known, env_stay, elements_known}
use Rattle.lola_eval.proofs.Means.{lower_means}
use Rattle.lola_eval.proofs.Placed.{same_number, no_clock, wide_at, two_kinds}

-- what holds of all that the steps make holds of an answer by them
pub if_went : {D X V : Type 0} (view : V → X) (should : Option (D × X)) (now : D) (result : Result V AlgError) (P : V → Type 0) → Went view should now result → ((made : V) → should ≡ Some (now, view made) → P made) → IfOk result P
if_went view should now (Ok made) P went holds = holds made went
if_went view should now (Err error) P went holds = tt

-- the signal at a number is one
pub its_kind : (F : FlatTree) (n : ℕ) (s : SignalTree) (kind : SigKind) → IsSignal F n s → IsKind F n kind → s.kind ≡ kind
its_kind F n s kind is k = ap (λ (t : SignalTree). t.kind) (some_same s k.0 (sym is ∙ k.1.0)) ∙ k.1.1

-- vectors as wide as a signal's: so many, each of the width, and so back
wide_long : {B : Type 0} (s : SignalTree) (vectors : List (List B)) → IsWideAs s vectors → length vectors ≡ s.count
wide_long s vectors wide = sym (length-map vectors length) ∙ ap length wide ∙ length-replicate s.count s.width

each_wide : {B : Type 0} (vectors : List (List B)) (count w : ℕ) → map length vectors ≡ replicate count w → AreWide w vectors
each_wide [] count w e = tt
each_wide (x ∷ xs) zero w e = absurd (cc)
each_wide (x ∷ xs) (suc n) w e =
    let f : length x ∷ map length xs ≡ w ∷ replicate n w = e in
    let head : length x ≡ w = cc in
    let tail : map length xs ≡ replicate n w = cc in
    (head, each_wide xs n w tail)

wide_each : {B : Type 0} (vectors : List (List B)) (count w : ℕ) → length vectors ≡ count → AreWide w vectors → map length vectors ≡ replicate count w
wide_each [] count w e wide = ap (λ k. replicate k w) e
wide_each (x ∷ xs) zero w e wide = absurd (omega arith)
wide_each (x ∷ xs) (suc n) w e wide = ap₂ (λ k ks. k ∷ ks) wide.0 (wide_each xs n w (omega arith) wide.1)

-- a register has an equation
no_equation : (kind : SigKind) → kind ≡ Register → EquationFits kind None → ⊥
no_equation Register is fits = cc
no_equation Input is fits = cc
no_equation Wire is fits = cc
no_equation Pad is fits = cc

-- a list with another number at a place is as long
chosen_long : (b : Bool) (y x : ℕ) (xs zs : List ℕ) → length zs ≡ length xs → length (cond b (y ∷ xs) (x ∷ zs)) ≡ suc (length xs)
chosen_long true y x xs zs e = refl
chosen_long false y x xs zs e = ap suc e

with_long : (ns : List ℕ) (n y : ℕ) → length (with_number ns n y) ≡ length ns
with_long [] n y = refl
with_long (x ∷ xs) n y = chosen_long (nat_eq n 0) y x xs (with_number xs (n - 1) y) (with_long xs (n - 1) y)

-- the steps mean numbers, whatever suits
module _ {D B : Type 0} (c : Calls D B) (m : Meaning D B) (law : IsAlgebra c m) (E : Env (List B)) where
  vector_means : (e : ExprTree) (old : List (List B)) (d : D) (made : D × List (List B)) → Fits (mapped length E) e → EnvKnown m d E → next_step c E None (Some e) old d ≡ Some made →
      MeansNumbers m d made.0 made.1 (width (mapped length E) e) (λ v. next_elements (mapped length E) (numbers m d v E) None (Some e) (map (number_at m d v) old))
  vector_means e old d made fits known is =
      let i = into_made (lower_step c E e d) _ made is in
      let a = lower_means c m law E e d i.0 fits known i.1.0 in
      subst (λ (n : D × List (List B)). MeansNumbers m d n.0 n.1 (width (mapped length E) e) (λ v. value (mapped length E) (numbers m d v E) e ∷ [])) (some_same (i.0.0, i.0.1 ∷ []) made i.1.1)
      (record { stays = a.stays; known = (a.known, tt); wide = (a.long, tt); means = λ v. ap (λ k. k ∷ []) (a.means v) })

  array_is : (p e : ExprTree) (old : List (List B)) (at : List B) → SuitsArray E p e old → length at ≡ width (mapped length E) p → IsArray old at (width (mapped length E) e)
  array_is p e old at suits long = record {
    wide = suits.wide;
    places = subst (λ k. (1 ≤ k) × (k ≤ 10)) (sym long) suits.places;
    count = suits.count ∙ ap (λ k. 2 ^ k) (sym long);
    each = suits.each;
  }

  array_means : (p e : ExprTree) (old : List (List B)) (d : D) (made : D × List (List B)) → SuitsArray E p e old → EnvKnown m d E → AllByRecursion (AreKnown m d) old → next_step c E (Some p) (Some e) old d ≡ Some made →
      MeansNumbers m d made.0 made.1 (width (mapped length E) e) (λ v. next_elements (mapped length E) (numbers m d v E) (Some p) (Some e) (map (number_at m d v) old))
  array_means p e old d made suits known old_known is =
      let i = into_made (lower_step c E p d) _ made is in
      let a = lower_means c m law E p d i.0 suits.place_fits known i.1.0 in
      let later = env_known m d i.0.0 E a.stays known in
      let j = into_made (lower_step c E e i.0.0) _ made i.1.1 in
      let b = lower_means c m law E e i.0.0 j.0 suits.value_fits later j.1.0 in
      let stays : Stays m d j.0.0 = stays_then m d i.0.0 j.0.0 a.stays b.stays in
      let w = write_means c m law old i.0.1 j.0.1 (width (mapped length E) e) j.0.0 made (array_is p e old i.0.1 suits a.long) b.long (stay_known_all m d j.0.0 old stays old_known)
      (stay_known m i.0.0 j.0.0 i.0.1 b.stays a.known) b.known j.1.1 in
      let same : (v : ℕ → Bool) → with_number (map (number_at m j.0.0 v) old) (number_at m j.0.0 v i.0.1) (number_at m j.0.0 v j.0.1)
      ≡ with_number (map (number_at m d v) old) (value (mapped length E) (numbers m d v E) p) (value (mapped length E) (numbers m d v E) e) =
      λ v. ap₂ (λ ns k. with_number ns k (number_at m j.0.0 v j.0.1)) (numbers_stay m d j.0.0 old stays old_known v) (number_stay m i.0.0 j.0.0 i.0.1 b.stays a.known v ∙ a.means v)
      ∙ ap (with_number (map (number_at m d v) old) (value (mapped length E) (numbers m d v E) p)) (b.means v ∙ ap (λ N. value (mapped length E) N e) (env_stay m d i.0.0 E a.stays known v)) in
      record { stays = stays_then m d j.0.0 made.0 stays w.stays; known = w.known; wide = w.wide; means = λ v. w.means v ∙ same v }

module _ (F : FlatTree) (formed : IsFormed F) where
  -- a register is not the clock
  pub no_clock_register : (n : ℕ) (s : SignalTree) → IsSignal F n s → s.kind ≡ Register → IsClock F s → ⊥
  no_clock_register n s is kind clock =
      let h : HasClock F clock.0 = subst (λ (o : Option (List ℕ)). IfSome o (HasClock F)) clock.1.0 formed.clock in
      let same : h.number ≡ n = same_number F.signals h.number n h.signal s formed.paths h.is is (h.path ∙ sym clock.1.1) in
      let kinds : Input ≡ Register = two_kinds F n Input Register (subst (λ j. IsKind F j Input) same (h.signal, (h.is, h.kind))) (s, (is, kind)) in
      cc

  -- a register reads nothing from outside
  inside : (n : ℕ) (s : SignalTree) (kind : SigKind) → kind ≡ Register → OutsideFits n kind s → (e : ExprTree) → IsIn e (expressions s) → AllByRecursion NotOutside (reads e)
  inside n s Register is fits e among = fits e among
  inside n s Input is fits e among = fits e among
  inside n s Wire is fits e among = fits e among
  inside n s Pad is fits e among = absurd (cc)

  module _ {D B : Type 0} (m : Meaning D B) (E : Env (List B)) (bits : AreSignalBits F E.signals) (n : ℕ) (s : SignalTree) (is : IsSignal F n s) (kind : s.kind ≡ Register) where
    pub old_wide : IsWideAs s (get_or E.signals n [])
    old_wide = bits.each n s is (no_clock_register n s is kind)

    one_width : (e : ExprTree) → IsIn e (expressions s) → (r : Read) → IsIn r (reads e) → ReadFits F r → NotOutside r → HaveSame (widths_of F) (mapped length E) r
    one_width e among (vector_of k) read fits none =
        wide_at F formed k fits.0 fits.1.0
        ∙ sym (bits.each k fits.0 fits.1.0 (no_clock F formed n s e is among k fits.0 fits.1.0 (to_map number_read (vector_of k) (reads e) read))) ∙ sym (elements_mapped length E k)
    one_width e among (array_of k) read fits none =
        wide_at F formed k fits.0 fits.1.0
        ∙ sym (bits.each k fits.0 fits.1.0 (no_clock F formed n s e is among k fits.0 fits.1.0 (to_map number_read (array_of k) (reads e) read))) ∙ sym (elements_mapped length E k)
    one_width e among (outside_of k) read fits none = absurd none

    same : (e : ExprTree) → IsIn e (expressions s) → AllByRecursion (HaveSame (widths_of F) (mapped length E)) (reads e)
    same e among =
        all_of (HaveSame (widths_of F) (mapped length E)) (reads e) (λ r read.
        one_width e among r read (of_all (ReadFits F) r (reads e) ((formed.signals n s is).reads e among) read)
        (of_all NotOutside r (reads e) (inside n s s.kind kind (formed.signals n s is).outside e among) read))

    same_number_of : (e : ExprTree) → IsIn e (expressions s) → (N : Env ℕ) → value (mapped length E) N e ≡ value (widths_of F) N e
    same_number_of e among N = sym (value_same (widths_of F) (mapped length E) N N e (same e among) (all_of (HaveSame N N) (reads e) (λ r read. itself r)))
      where
        itself : (r : Read) → HaveSame N N r
        itself (vector_of k) = refl
        itself (array_of k) = refl
        itself (outside_of k) = refl

    in_equation : (e : ExprTree) → s.equation ≡ Some e → IsIn e (expressions s)
    in_equation e its = in_back e (there s.place) (there s.equation) (subst (λ (o : Option ExprTree). IsIn e (there o)) (sym its) (inl refl))

    in_place : (p : ExprTree) → s.place ≡ Some p → IsIn p (expressions s)
    in_place p its = in_front p (there s.place) (there s.equation) (subst (λ (o : Option ExprTree). IsIn p (there o)) (sym its) (inl refl))

    equation_suits : (e : ExprTree) → s.equation ≡ Some e → EquationSuits F s e
    equation_suits e its = subst (λ (o : Option ExprTree). IfSome o (EquationSuits F s)) its (formed.signals n s is).equation_suits

    place_suits : (p : ExprTree) → s.place ≡ Some p → PlaceSuits F s p
    place_suits p its = subst (λ (o : Option ExprTree). IfSome o (PlaceSuits F s)) its (formed.signals n s is).place_suits

    value_wide : (e : ExprTree) → s.equation ≡ Some e → width (mapped length E) e ≡ s.width
    value_wide e its = sym (width_same (widths_of F) (mapped length E) e (same e (in_equation e its))) ∙ (equation_suits e its).width

    value_fits : (e : ExprTree) → s.equation ≡ Some e → Fits (mapped length E) e
    value_fits e its = fits_same (widths_of F) (mapped length E) e (same e (in_equation e its)) (equation_suits e its).fits

    array_suits : (p e : ExprTree) → s.place ≡ Some p → s.equation ≡ Some e → SuitsArray E p e (get_or E.signals n [])
    array_suits p e place equation =
        let w : width (mapped length E) e ≡ s.width = value_wide e equation in
        let suits = place_suits p place in
        let narrow : width (widths_of F) p ≡ width (mapped length E) p = width_same (widths_of F) (mapped length E) p (same p (in_place p place)) in
        record {
          place_fits = fits_same (widths_of F) (mapped length E) p (same p (in_place p place)) suits.fits;
          value_fits = value_fits e equation;
          wide = subst IsWidth (sym w) (formed.signals n s is).wide;
          places = subst (λ k. (1 ≤ k) × (k ≤ 10)) narrow suits.places;
          count = wide_long s (get_or E.signals n []) old_wide ∙ suits.count ∙ ap (λ k. 2 ^ k) narrow;
          each = subst (λ k. AreWide k (get_or E.signals n [])) (sym w) (each_wide (get_or E.signals n []) s.count s.width old_wide);
        }

    pub register_suits : SuitsNext E s.place s.equation (get_or E.signals n [])
    register_suits = at s.place refl s.equation refl
      where
        at : (place : Option ExprTree) → s.place ≡ place → (equation : Option ExprTree) → s.equation ≡ equation → SuitsNext E place equation (get_or E.signals n [])
        at None p None e = tt
        at (Some place) p None e = tt
        at None p (Some f) e = value_fits f e
        at (Some place) p (Some f) e = array_suits place f p e

    -- of a register the steps mean the next value
    module _ (c : Calls D B) (law : IsAlgebra c m) (d : D) (known : EnvKnown m d E) where
      as_next : (place equation : Option ExprTree) → s.place ≡ place → s.equation ≡ equation → (now : D) (vectors : List (List B)) → IsWideAs s vectors → Stays m d now → AllByRecursion (AreKnown m now) vectors →
          ((v : ℕ → Bool) → map (number_at m now v) vectors ≡ next_elements (widths_of F) (numbers m d v E) place equation (map (number_at m d v) (get_or E.signals n []))) → MeansNext m F E n s d now vectors
      as_next place equation p e now vectors wide stays known means = record {
        stays = stays;
        known = known;
        wide = wide;
        means = λ v. means v ∙ ap₂ (λ q f. next_elements (widths_of F) (numbers m d v E) q f (map (number_at m d v) (get_or E.signals n []))) (sym p) (sym e)
            ∙ ap (next_elements (widths_of F) (numbers m d v E) s.place s.equation) (sym (elements_mapped (number_at m d v) E n));
      }

      next_is : (place equation : Option ExprTree) → s.place ≡ place → s.equation ≡ equation → (made : D × List (List B)) → next_step c E place equation (get_or E.signals n []) d ≡ Some made → MeansNext m F E n s d made.0 made.1
      next_is None None p e made made_is = absurd (no_equation s.kind kind (subst (EquationFits s.kind) e (formed.signals n s is).equation))
      next_is (Some place) None p e made made_is = absurd (no_equation s.kind kind (subst (EquationFits s.kind) e (formed.signals n s is).equation))
      next_is None (Some f) p e made made_is =
          let a = vector_means c m law E f (get_or E.signals n []) d made (value_fits f e) known made_is in
          let one : s.count ≡ 1 = subst (λ (o : Option ExprTree). CountFits s.kind o s.count) p (formed.signals n s is).count in
          let k = a.wide in
          as_next None (Some f) p e made.0 made.1 (one_wide made.1 f e a one) a.stays a.known (λ v. a.means v ∙ ap (λ x. x ∷ []) (same_number_of f (in_equation f e) (numbers m d v E)))
        where
          one_wide : (vectors : List (List B)) (f : ExprTree) (e : s.equation ≡ Some f) →
              MeansNumbers m d made.0 vectors (width (mapped length E) f) (λ v. value (mapped length E) (numbers m d v E) f ∷ []) → s.count ≡ 1 → IsWideAs s vectors
          one_wide vectors f e a one =
              let long : length vectors ≡ 1 = sym (length-map vectors (number_at m made.0 (λ k. true))) ∙ ap length (a.means (λ k. true)) in
              wide_each vectors s.count s.width (long ∙ sym one) (subst (λ w. AreWide w vectors) (value_wide f e) a.wide)
      next_is (Some place) (Some f) p e made made_is =
          let a = array_means c m law E place f (get_or E.signals n []) d made (array_suits place f p e) known (elements_known m d E n known) made_is in
          let long : length made.1 ≡ s.count = sym (length-map made.1 (number_at m made.0 (λ k. true))) ∙ ap length (a.means (λ k. true)) ∙ with_long (map (number_at m d (λ k. true)) (get_or E.signals n [])) (value (mapped length E) (numbers m d (λ k. true) E) place) (value (mapped length E) (numbers m d (λ k. true) E) f)
          ∙ length-map (get_or E.signals n []) (number_at m d (λ k. true)) ∙ wide_long s (get_or E.signals n []) old_wide in
          as_next (Some place) (Some f) p e made.0 made.1 (wide_each made.1 s.count s.width long (subst (λ w. AreWide w made.1) (value_wide f e) a.wide)) a.stays a.known
          (λ v. a.means v ∙ ap₂ (with_number (map (number_at m d v) (get_or E.signals n []))) (same_number_of place (in_place place p) (numbers m d v E)) (same_number_of f (in_equation f e) (numbers m d v E)))

      pub next_means : (made : D × List (List B)) → next_step c E s.place s.equation (get_or E.signals n []) d ≡ Some made → MeansNext m F E n s d made.0 made.1
      next_means made is = next_is s.place s.equation refl refl made is

-- what was known stays where a register's next value was made, and stands behind the cycle
module _ {D B : Type 0} (m : Meaning D B) (F : FlatTree) (E : Env (List B)) (n : ℕ) (s : SignalTree) (before now : D) where
  pub kept_next : (result : Result (List (List B)) AlgError) → IfOk result (λ made. MeansNext m F E n s before now made) → KeptArray m (λ v. v) before now result
  kept_next (Ok made) means = (means.stays, means.known)
  kept_next (Err error) means = tt

  pub behind_next : s.kind ≡ Register → (result : Result (List (List B)) AlgError) → IfOk result (λ made. MeansNext m F E n s before now made) → IfOk result (λ made. MeansBehind m F E n s before now made)
  behind_next kind (Ok made) means = record {
    wide = λ k. means.wide;
    means = λ v. subst (λ k. IsNextOf k (next_elements (widths_of F) (numbers m before v E) s.place s.equation (get_or (numbers m before v E).signals n [])) (map (number_at m now v) made)) (sym kind) (means.means v);
  }
  behind_next kind (Err error) means = tt

-- a fault is handed on, by what answers such a value
pub same_fault : {D X Y V U : Type 0} (such : U) (view : V → X) (other : U → Y) (made : Option (D × X)) (all : Option (D × Y)) (now : D) (error : AlgError) →
    Went view made now (Err error) → (made ≡ None → all ≡ None) → Went other all now (Err error)
same_fault such view other made all now Full went none = none went
same_fault such view other made all now Memory went none = tt
