-- The signals of a well formed design in the order of equations: what is placed has the values of the design's
-- equations, and the next equation suits the table.
use Rattle.std.proofs.Common.{◌≡◌, ◌≢◌, ◌⊎◌, ℕ, zero, suc, ◌<◌, Bool, List, [], ◌∷◌, ◌++◌, length, map, replicate, get_or, set, Option, Some, None, inl, inr, refl, sym, ◌∙◌, ap, subst, append_assoc}
use Rattle.std.specs.Prelude.{slice_get, IfSome}
use Rattle.std.specs.List.{AllByRecursion}
use Rattle.std.proofs.Math.ListN.{get_or-map}
use Rattle.std.proofs.lemmas.List.{get_or-set_same, get_or-set_other, length-set}
use Rattle.std.proofs.lemmas.Option.{get_or_from_slice_get, slice_get_within}
use Rattle.lola_bits.specs.Lists.{IsIn, AreDistinct}
use Rattle.lola_bits.proofs.All.{all_of, of_all, all_set}
use Rattle.lola_bits.proofs.Lists.{but_last, is_between, in_front, in_back, parted, to_map, apart}
use Rattle.lola_bits.proofs.Places.{get_map, get_in}
use Rattle.lola_bits.proofs.Options.{some_same}
use Rattle.lola_alg.specs.Algebra.{Meaning, Stays}
use Rattle.lola_alg.specs.Means.{AreKnown, number_at}
use Rattle.lola_alg.proofs.BitMeans.{stays_same}
use Rattle.lola_alg.proofs.Loops.{stays_then}
use Rattle.lola_flat.specs.declared.design.SigKind.{SigKind}
use Rattle.lola_flat.specs.declared.design.SigKind.TheVariants.{Input, Pad, Wire, Register}
use Rattle.lola_flat.specs.Tree.{ExprTree, SignalTree, FlatTree}
use Rattle.lola_flat.specs.Value.{Env, env, mapped, elements, value, Fits, Read, vector_of, array_of, outside_of, reads}
use Rattle.lola_flat.specs.Signals.{IsSignal, widths_of, there, expressions, number_read, HaveSame, IsClock}
use Rattle.lola_flat.specs.Formed.{IsKind, HasClock, CountFits, ReadFits, EquationSuits, IsReadyBehind, IsFormed}
use Rattle.lola_flat.specs.Cycle.{IsValueOf}
use Rattle.lola_flat.proofs.SameReads.{width_same, value_same, fits_same}
use Rattle.lola_flat.proofs.OneCycle.{IsDriven, has_equation}
use Rattle.lola_eval.specs.Means.{IsWideAs, IsGivenBits, AreGivenBits, EnvKnown, numbers, MeansValue, MeansCycle}
use Rattle.lola_eval.proofs.Kept.{elements_mapped, number_stay, numbers_stay, env_known, outer_known, elements_known}

-- one path, one number
pub same_number : (xs : List SignalTree) (i j : ℕ) (s t : SignalTree) → AreDistinct (map (λ (x : SignalTree). x.path) xs) → slice_get xs i ≡ Some s → slice_get xs j ≡ Some t → s.path ≡ t.path → i ≡ j
same_number [] i j s t distinct p q e = absurd (let f : None ≡ Some s = p in cc)
same_number (x ∷ xs) zero zero s t distinct p q e = refl
same_number (x ∷ xs) zero (suc j) s t distinct p q e =
    let f : x ≡ s = some_same x s p in
    absurd (distinct.0 (subst (λ (y : List (List ℕ)). IsIn y (map (λ (z : SignalTree). z.path) xs)) (sym e ∙ ap (λ (z : SignalTree). z.path) (sym f)) (to_map (λ (z : SignalTree). z.path) t xs (get_in xs j t q))))
same_number (x ∷ xs) (suc i) zero s t distinct p q e =
    let f : x ≡ t = some_same x t q in
    absurd (distinct.0 (subst (λ (y : List (List ℕ)). IsIn y (map (λ (z : SignalTree). z.path) xs)) (e ∙ ap (λ (z : SignalTree). z.path) (sym f)) (to_map (λ (z : SignalTree). z.path) s xs (get_in xs i s p))))
same_number (x ∷ xs) (suc i) (suc j) s t distinct p q e = ap suc (same_number xs i j s t distinct.1 p q e)

-- what has an equation and is no register has one element
one_element : (kind : SigKind) (place : Option ExprTree) (count : ℕ) → IsDriven kind → CountFits kind place count → count ≡ 1
one_element kind None count driven fits = fits
one_element kind (Some p) count (inl wire) fits = absurd (let e : kind ≡ Register = fits.0 in cc)
one_element kind (Some p) count (inr pad) fits = absurd (let e : kind ≡ Register = fits.0 in cc)

-- what is given is as wide as the signal
given_input : {B : Type 0} (F : FlatTree) (s : SignalTree) (kind : SigKind) (vectors : List (List B)) (outer : List B) → kind ≡ Input → IsGivenBits F s kind vectors outer → (IsClock F s → ⊥) → IsWideAs s vectors
given_input F s Input vectors outer is given no_clock = given no_clock
given_input F s Register vectors outer is given no_clock = given
given_input F s Wire vectors outer is given no_clock = absurd (cc)
given_input F s Pad vectors outer is given no_clock = absurd (cc)

given_register : {B : Type 0} (F : FlatTree) (s : SignalTree) (kind : SigKind) (vectors : List (List B)) (outer : List B) → kind ≡ Register → IsGivenBits F s kind vectors outer → IsWideAs s vectors
given_register F s Input vectors outer is given = absurd (cc)
given_register F s Register vectors outer is given = given
given_register F s Wire vectors outer is given = absurd (cc)
given_register F s Pad vectors outer is given = absurd (cc)

given_pad : {B : Type 0} (F : FlatTree) (s : SignalTree) (kind : SigKind) (vectors : List (List B)) (outer : List B) → kind ≡ Pad → IsGivenBits F s kind vectors outer → length outer ≡ s.width
given_pad F s Input vectors outer is given = absurd (cc)
given_pad F s Register vectors outer is given = absurd (cc)
given_pad F s Wire vectors outer is given = absurd (cc)
given_pad F s Pad vectors outer is given = given

-- a signal isn't of two kinds
pub two_kinds : (F : FlatTree) (n : ℕ) (a b : SigKind) → IsKind F n a → IsKind F n b → a ≡ b
two_kinds F n a b p q = let e : p.0 ≡ q.0 = some_same p.0 q.0 (sym p.1.0 ∙ q.1.0) in sym p.1.1 ∙ ap (λ (s : SignalTree). s.kind) e ∙ q.1.1

-- the equation of a signal is one of its expressions
pub its_equation : (s : SignalTree) (e : ExprTree) → s.equation ≡ Some e → IsIn e (expressions s)
its_equation s e is = in_back e (there s.place) (there s.equation) (subst (λ (o : Option ExprTree). IsIn e (there o)) (sym is) (inl refl))

module _ {D B : Type 0} (F : FlatTree) (m : Meaning D B) (given : Env (List B)) (start : D) where
  -- a signal has one vector, of its width, that means the value of its equation under each assignment
  pub record IsDrivenBits (n : ℕ) (s : SignalTree) (e : ExprTree) (now : D) (table : List (List (List B))) : Type 0 where
    pub vector : List B
    pub is : get_or table n [] ≡ vector ∷ []
    pub long : length vector ≡ s.width
    pub means : (v : ℕ → Bool) → number_at m now v vector ≡ value (widths_of F) (numbers m now v (env table given.outside)) e

  -- signals up to a point of the order
  pub record Placed (before : List ℕ) (now : D) (table : List (List (List B))) : Type 0 where
    pub stays : Stays m start now
    pub known : EnvKnown m now (env table given.outside)
    pub long : length table ≡ length F.signals
    pub given_stays : (n : ℕ) (s : SignalTree) → IsSignal F n s → (s.kind ≡ Input) ⊎ (s.kind ≡ Register) → get_or table n [] ≡ get_or given.signals n []
    pub driven : (n : ℕ) (s : SignalTree) (e : ExprTree) → IsIn n before → IsSignal F n s → s.equation ≡ Some e → IsDrivenBits n s e now table

module _ (F : FlatTree) (formed : IsFormed F) where
  -- what is read isn't the clock
  pub no_clock : (n : ℕ) (s : SignalTree) (e : ExprTree) → IsSignal F n s → IsIn e (expressions s) → (k : ℕ) (t : SignalTree) → IsSignal F k t → IsIn k (map number_read (reads e)) → IsClock F t → ⊥
  no_clock n s e is among k t there read clock =
      let h : HasClock F clock.0 = subst (λ (o : Option (List ℕ)). IfSome o (HasClock F)) clock.1.0 formed.clock in
      let same : h.number ≡ k = same_number F.signals h.number k h.signal t formed.paths h.is there (h.path ∙ sym clock.1.1) in
      h.unused n s is e among (subst (λ j. IsIn j (map number_read (reads e))) (sym same) read)

  -- the widths of a design at a signal
  pub wide_at : (n : ℕ) (s : SignalTree) → IsSignal F n s → elements (widths_of F) n ≡ replicate s.count s.width
  wide_at n s is = get_or_from_slice_get (widths_of F).signals n (replicate s.count s.width) [] (get_map (λ (t : SignalTree). replicate t.count t.width) F.signals n s is)

  wide_outside : (n : ℕ) (s : SignalTree) → IsSignal F n s → get_or (widths_of F).outside n 0 ≡ s.width
  wide_outside n s is = get_or_from_slice_get (widths_of F).outside n s.width 0 (get_map (λ (t : SignalTree). t.width) F.signals n s is)

  -- a number of the order is a signal with an equation
  pub in_order : (n : ℕ) → IsIn n F.order → (s : SignalTree) × (IsSignal F n s × IsDriven s.kind)
  in_order n among = elim (formed.order.only n among) [ inl k ↦ (k.0, (k.1.0, inl k.1.1)) | inr k ↦ (k.0, (k.1.0, inr k.1.1)) ]

  module _ (before after : List ℕ) (n : ℕ) (split : F.order ≡ before ++ n ∷ after) where
    here : IsIn n F.order
    here = subst (IsIn n) (sym split) (is_between n before after)

    earlier : (k : ℕ) → IsIn k before → IsIn k F.order
    earlier k among = subst (IsIn k) (sym split) (in_front k before (n ∷ after) among)

    -- what is ready isn't the signal itself
    not_itself : (front : List ℕ) → ((k : ℕ) → IsIn k front → IsIn k before) → (k : ℕ) → IsReadyBehind F front (vector_of k) → k ≢ n
    not_itself front within k ready e =
        elim ready [
          | inl input ↦ no_given (inl (subst (λ j. IsKind F j Input) e input))
          | inr rest ↦ elim rest [
            | inl register ↦ no_given (inr (subst (λ j. IsKind F j Register) e register))
            | inr among ↦ apart n before (n ∷ after) (subst AreDistinct split formed.order.once) (subst (λ j. IsIn j before) e (within k among)) (inl refl)
          ]
        ]
      where
        no_given : IsKind F n Input ⊎ IsKind F n Register → ⊥
        no_given (inl i) = elim (formed.order.only n here) [ inl w ↦ (let f = two_kinds F n Input Wire i w in cc) | inr w ↦ (let f = two_kinds F n Input Pad i w in cc) ]
        no_given (inr i) = elim (formed.order.only n here) [ inl w ↦ (let f = two_kinds F n Register Wire i w in cc) | inr w ↦ (let f = two_kinds F n Register Pad i w in cc) ]

  module _ {D B : Type 0} (m : Meaning D B) (given : Env (List B)) (start : D) (fit : AreGivenBits F given) (first_known : EnvKnown m start given) where
    pub placed_none : Placed F m given start [] start given.signals
    placed_none = record { stays = stays_same m start; known = first_known; long = fit.long; given_stays = λ n s is kind. refl; driven = λ n s e none is equation. absurd none }

    -- what is placed, or given, is as wide as the signal
    wide_driven : (now : D) (table : List (List (List B))) (n : ℕ) (s : SignalTree) (e : ExprTree) → IsSignal F n s → IsDriven s.kind → IsDrivenBits F m given start n s e now table → IsWideAs s (get_or table n [])
    wide_driven now table n s e is driven bits =
        let one : s.count ≡ 1 = one_element s.kind s.place s.count driven (formed.signals n s is).count in
        ap (map length) bits.is ∙ ap (λ w. w ∷ []) bits.long ∙ sym (ap (λ k. replicate k s.width) one)

    module _ (before : List ℕ) (now : D) (table : List (List (List B))) (p : Placed F m given start before now table) (placed : (k : ℕ) → IsIn k before → IsIn k F.order) where
      wide_ready : (n : ℕ) (s : SignalTree) → IsSignal F n s → IsReadyBehind F before (vector_of n) → (IsClock F s → ⊥) → IsWideAs s (get_or table n [])
      wide_ready n s is ready clock = elim ready [
        | inl input ↦ wide_input (sym (ap (λ (t : SignalTree). t.kind) (the_signal input.0 input.1.0)) ∙ input.1.1)
        | inr rest ↦ elim rest [
          | inl register ↦ wide_register (sym (ap (λ (t : SignalTree). t.kind) (the_signal register.0 register.1.0)) ∙ register.1.1)
          | inr among ↦ wide_before among
        ]
      ]
        where
          the_signal : (t : SignalTree) → IsSignal F n t → t ≡ s
          the_signal t there = some_same t s (sym there ∙ is)

          wide_input : s.kind ≡ Input → IsWideAs s (get_or table n [])
          wide_input kind = subst (IsWideAs s) (sym (p.given_stays n s is (inl kind))) (given_input F s s.kind (get_or given.signals n []) (get_or given.outside n []) kind (fit.each n s is) clock)

          wide_register : s.kind ≡ Register → IsWideAs s (get_or table n [])
          wide_register kind = subst (IsWideAs s) (sym (p.given_stays n s is (inr kind))) (given_register F s s.kind (get_or given.signals n []) (get_or given.outside n []) kind (fit.each n s is))

          wide_before : IsIn n before → IsWideAs s (get_or table n [])
          wide_before among =
              let found = in_order n (placed n among) in
              let driven : IsDriven s.kind = subst (λ (t : SignalTree). IsDriven t.kind) (the_signal found.0 found.1.0) found.1.1 in
              let equation = has_equation s.kind s.equation driven (formed.signals n s is).equation in
              wide_driven now table n s equation.0 is driven (p.driven n s equation.0 among is equation.1)

      -- the table has the widths of the design for what an expression reads
      wide_read : (n : ℕ) (s : SignalTree) (e : ExprTree) → IsSignal F n s → IsIn e (expressions s) → (r : Read) → IsIn r (reads e) → ReadFits F r → IsReadyBehind F before r →
          HaveSame (widths_of F) (mapped length (env table given.outside)) r
      wide_read n s e is among (vector_of k) read fits ready =
          wide_at k fits.0 fits.1.0 ∙ sym (wide_ready k fits.0 fits.1.0 ready (no_clock n s e is among k fits.0 fits.1.0 (to_map number_read (vector_of k) (reads e) read))) ∙ sym (elements_mapped length (env table given.outside) k)
      wide_read n s e is among (array_of k) read fits ready =
          wide_at k fits.0 fits.1.0 ∙ sym (wide_ready k fits.0 fits.1.0 (inr (inl ready)) (no_clock n s e is among k fits.0 fits.1.0 (to_map number_read (array_of k) (reads e) read))) ∙ sym (elements_mapped length (env table given.outside) k)
      wide_read n s e is among (outside_of k) read fits ready =
          wide_outside k fits.0 fits.1.0
          ∙ sym (given_pad F fits.0 fits.0.kind (get_or given.signals k []) (get_or given.outside k []) fits.1.1 (fit.each k fits.0 fits.1.0)) ∙ sym (get_or-map length given.outside k [])

      pub same_widths : (n : ℕ) (s : SignalTree) (e : ExprTree) → IsSignal F n s → IsIn e (expressions s) → AllByRecursion (IsReadyBehind F before) (reads e) →
          AllByRecursion (HaveSame (widths_of F) (mapped length (env table given.outside))) (reads e)
      same_widths n s e is among ready =
          all_of (HaveSame (widths_of F) (mapped length (env table given.outside))) (reads e) (λ r read.
          wide_read n s e is among r read (of_all (ReadFits F) r (reads e) ((formed.signals n s is).reads e among) read) (of_all (IsReadyBehind F before) r (reads e) ready read))

    module _ (before after : List ℕ) (n : ℕ) (split : F.order ≡ before ++ n ∷ after) (now : D) (table : List (List (List B))) (p : Placed F m given start before now table) (s : SignalTree) (is : IsSignal F n s) (e : ExprTree) (equation : s.equation ≡ Some e) where
      uses : AllByRecursion (IsReadyBehind F before) (reads e)
      uses = subst (λ (o : Option ExprTree). IfSome o (λ f. AllByRecursion (IsReadyBehind F before) (reads f))) equation (formed.order.uses before after n s split is)

      suits : EquationSuits F s e
      suits = subst (λ (o : Option ExprTree). IfSome o (EquationSuits F s)) equation (formed.signals n s is).equation_suits

      same : AllByRecursion (HaveSame (widths_of F) (mapped length (env table given.outside))) (reads e)
      same = same_widths before now table p (earlier before after n split) n s e is (its_equation s e equation) uses

      -- the next equation suits the table
      pub next_fits : Fits (mapped length (env table given.outside)) e
      next_fits = fits_same (widths_of F) (mapped length (env table given.outside)) e same suits.fits

      module _ (later : D) (x : List B) (means : MeansValue m (env table given.outside) e now (later, x)) where
        -- what is there keeps its numbers
        elements_stay : (v : ℕ → Bool) (k : ℕ) → k ≢ n → elements (numbers m now v (env table given.outside)) k ≡ elements (numbers m later v (env (set table n (x ∷ [])) given.outside)) k
        elements_stay v k other =
            elements_mapped (number_at m now v) (env table given.outside) k
            ∙ sym (numbers_stay m now later (get_or table k []) means.stays (elements_known m now (env table given.outside) k p.known) v)
            ∙ ap (map (number_at m later v)) (sym (get_or-set_other table n k (x ∷ []) [] other))
            ∙ sym (elements_mapped (number_at m later v) (env (set table n (x ∷ [])) given.outside) k)

        same_read : (front : List ℕ) → ((k : ℕ) → IsIn k front → IsIn k before) → (v : ℕ → Bool) (r : Read) → IsReadyBehind F front r →
            HaveSame (numbers m now v (env table given.outside)) (numbers m later v (env (set table n (x ∷ [])) given.outside)) r
        same_read front within v (vector_of k) ready = elements_stay v k (not_itself before after n split front within k ready)
        same_read front within v (array_of k) ready = elements_stay v k (not_itself before after n split front within k (inr (inl ready)))
        same_read front within v (outside_of k) ready =
            get_or-map (number_at m now v) given.outside k []
            ∙ sym (number_stay m now later (get_or given.outside k []) means.stays (outer_known m now (env table given.outside) k p.known) v)
            ∙ sym (get_or-map (number_at m later v) given.outside k [])

        same_value : (front : List ℕ) → ((k : ℕ) → IsIn k front → IsIn k before) → (f : ExprTree) → AllByRecursion (IsReadyBehind F front) (reads f) → (v : ℕ → Bool) →
            value (widths_of F) (numbers m now v (env table given.outside)) f ≡ value (widths_of F) (numbers m later v (env (set table n (x ∷ [])) given.outside)) f
        same_value front within f ready v =
            value_same (widths_of F) (widths_of F) (numbers m now v (env table given.outside)) (numbers m later v (env (set table n (x ∷ [])) given.outside)) f
            (all_of (HaveSame (widths_of F) (widths_of F)) (reads f) (λ r among. itself r))
            (all_of (HaveSame (numbers m now v (env table given.outside)) (numbers m later v (env (set table n (x ∷ [])) given.outside))) (reads f)
            (λ r among. same_read front within v r (of_all (IsReadyBehind F front) r (reads f) ready among)))
          where
            itself : (r : Read) → HaveSame (widths_of F) (widths_of F) r
            itself (vector_of k) = refl
            itself (array_of k) = refl
            itself (outside_of k) = refl

        -- the new vector
        new_bits : IsDrivenBits F m given start n s e later (set table n (x ∷ []))
        new_bits = record {
          vector = x;
          is = get_or-set_same table n (x ∷ []) [] (subst (λ k. n < k) (sym p.long) (slice_get_within F.signals n s is));
          long = means.long ∙ sym (width_same (widths_of F) (mapped length (env table given.outside)) e same) ∙ suits.width;
          means = λ v. means.means v
              ∙ sym (value_same (widths_of F) (mapped length (env table given.outside)) (numbers m now v (env table given.outside)) (numbers m now v (env table given.outside)) e same (all_of (HaveSame (numbers m now v (env table given.outside)) (numbers m now v (env table given.outside))) (reads e) (λ r among. itself v r)))
              ∙ same_value before (λ k among. among) e uses v;
        }
          where
            itself : (v : ℕ → Bool) (r : Read) → HaveSame (numbers m now v (env table given.outside)) (numbers m now v (env table given.outside)) r
            itself v (vector_of k) = refl
            itself v (array_of k) = refl
            itself v (outside_of k) = refl

        -- those before it stay
        old_bits : (k : ℕ) (t : SignalTree) (f : ExprTree) → IsIn k before → IsSignal F k t → t.equation ≡ Some f → IsDrivenBits F m given start k t f later (set table n (x ∷ []))
        old_bits k t f among there its =
            let old = p.driven k t f among there its in
            let part = parted k before among in
            let front_split : F.order ≡ part.0 ++ k ∷ (part.1 ++ n ∷ after) = split ∙ ap (λ b. b ++ n ∷ after) part.2 ∙ append_assoc part.0 (k ∷ part.1) (n ∷ after) in
            let ready : AllByRecursion (IsReadyBehind F part.0) (reads f) =
            subst (λ (o : Option ExprTree). IfSome o (λ g. AllByRecursion (IsReadyBehind F part.0) (reads g))) its (formed.order.uses part.0 (part.1 ++ n ∷ after) k t front_split there) in
            let other : k ≢ n = not_itself before after n split before (λ j a. a) k (inr (inr among)) in
            let among_known : AreKnown m now old.vector = vector_known old in
            record {
              vector = old.vector;
              is = get_or-set_other table n k (x ∷ []) [] other ∙ old.is;
              long = old.long;
              means = λ v. number_stay m now later old.vector means.stays among_known v ∙ old.means v
                  ∙ same_value part.0 (λ j a. subst (IsIn j) (sym part.2) (in_front j part.0 (k ∷ part.1) a)) f ready v;
            }
          where
            vector_known : (old : IsDrivenBits F m given start k t f now table) → AreKnown m now old.vector
            vector_known old = (subst (AllByRecursion (AreKnown m now)) old.is (elements_known m now (env table given.outside) k p.known)).0

        pub placed_more : Placed F m given start (before ++ n ∷ []) later (set table n (x ∷ []))
        placed_more = record {
          stays = stays_then m start now later p.stays means.stays;
          known = record {
            signals = all_set (AllByRecursion (AreKnown m later)) table n (x ∷ []) (means.known, tt) (env_known m now later (env table given.outside) means.stays p.known).signals;
            outside = (env_known m now later (env table given.outside) means.stays p.known).outside;
          };
          long = length-set table n (x ∷ []) ∙ p.long;
          given_stays = λ k t there kind. get_or-set_other table n k (x ∷ []) [] (other k t there kind) ∙ p.given_stays k t there kind;
          driven = λ k t f among there its. elim (but_last k n before among) [
            | inl here ↦ at_new k t f here there its
            | inr old ↦ old_bits k t f old there its
          ];
        }
          where
            other : (k : ℕ) (t : SignalTree) → IsSignal F k t → (t.kind ≡ Input) ⊎ (t.kind ≡ Register) → k ≢ n
            other k t there (inl kind) = not_itself before after n split before (λ j a. a) k (inl (t, (there, kind)))
            other k t there (inr kind) = not_itself before after n split before (λ j a. a) k (inr (inl (t, (there, kind))))

            at_new : (k : ℕ) (t : SignalTree) (f : ExprTree) → k ≡ n → IsSignal F k t → t.equation ≡ Some f → IsDrivenBits F m given start k t f later (set table n (x ∷ []))
            at_new k t f here there its =
                let signal : s ≡ t = some_same s t (sym is ∙ ap (λ j. slice_get F.signals j) (sym here) ∙ there) in
                let tree : e ≡ f = some_same e f (sym equation ∙ ap (λ (u : SignalTree). u.equation) signal ∙ its) in
                subst (λ j. IsDrivenBits F m given start j t f later (set table n (x ∷ []))) (sym here)
                (subst (λ u. IsDrivenBits F m given start n u f later (set table n (x ∷ []))) signal (subst (λ g. IsDrivenBits F m given start n s g later (set table n (x ∷ []))) tree new_bits))

    -- when all are placed, the table means the cycle
    pub placed_cycle : (now : D) (table : List (List (List B))) → Placed F m given start F.order now table → MeansCycle m F given start now table
    placed_cycle now table p = record {
      stays = p.stays;
      known = p.known.signals;
      wide = record { long = p.long; each = wide };
      means = λ v. record { long = long-map table (map (number_at m now v)) ∙ p.long; each = λ n s is. at_start v n s is };
    }
      where
        long-map : {X Y : Type 0} (xs : List X) (f : X → Y) → length (map f xs) ≡ length xs
        long-map [] f = refl
        long-map (x ∷ xs) f = ap suc (long-map xs f)

        wide : (n : ℕ) (s : SignalTree) → IsSignal F n s → (IsClock F s → ⊥) → IsWideAs s (get_or table n [])
        wide n s is clock = wide_ready F.order now table p (λ k among. among) n s is (ready s.kind refl) clock
          where
            ready : (kind : SigKind) → s.kind ≡ kind → IsReadyBehind F F.order (vector_of n)
            ready Input e = inl (s, (is, e))
            ready Register e = inr (inl (s, (is, e)))
            ready Wire e = inr (inr (formed.order.wires n (s, (is, e))))
            ready Pad e = inr (inr (formed.order.pads n (s, (is, e))))

        at_start : (v : ℕ → Bool) (n : ℕ) (s : SignalTree) → IsSignal F n s →
            IsValueOf F (env (map (map (number_at m now v)) table) (numbers m start v given).outside) s.kind s.equation (get_or (numbers m start v given).signals n []) (get_or (map (map (number_at m now v)) table) n [])
        at_start v n s is =
            subst (λ (o : List ℕ). IsValueOf F (env (map (map (number_at m now v)) table) o) s.kind s.equation (get_or (numbers m start v given).signals n []) (get_or (map (map (number_at m now v)) table) n []))
            (numbers_stay m start now given.outside p.stays first_known.outside v)
            (subst (IsValueOf F (numbers m now v (env table given.outside)) s.kind s.equation (get_or (numbers m start v given).signals n [])) (sym (elements_mapped (number_at m now v) (env table given.outside) n)) (at v n s is))
          where
            at : (v : ℕ → Bool) (n : ℕ) (s : SignalTree) → IsSignal F n s →
                IsValueOf F (numbers m now v (env table given.outside)) s.kind s.equation (get_or (numbers m start v given).signals n []) (map (number_at m now v) (get_or table n []))
            at v n s is = by_kind s.kind refl s.equation refl
              where
                as_given : (s.kind ≡ Input) ⊎ (s.kind ≡ Register) → map (number_at m now v) (get_or table n []) ≡ get_or (numbers m start v given).signals n []
                as_given kind =
                    ap (map (number_at m now v)) (p.given_stays n s is kind) ∙ numbers_stay m start now (get_or given.signals n []) p.stays (elements_known m start given n first_known) v
                    ∙ sym (elements_mapped (number_at m start v) given n)

                as_driven : (e : ExprTree) → IsIn n F.order → s.equation ≡ Some e → map (number_at m now v) (get_or table n []) ≡ value (widths_of F) (numbers m now v (env table given.outside)) e ∷ []
                as_driven e among its = let bits = p.driven n s e among is its in ap (map (number_at m now v)) bits.is ∙ ap (λ k. k ∷ []) (bits.means v)

                no_equation : (kind : SigKind) → IsDriven kind → s.kind ≡ kind → s.equation ≡ None → ⊥
                no_equation kind driven e none =
                    let found = has_equation s.kind s.equation (subst IsDriven (sym e) driven) (formed.signals n s is).equation in
                    let f : None ≡ Some found.0 = sym none ∙ found.1 in cc

                by_kind : (kind : SigKind) → s.kind ≡ kind → (equation : Option ExprTree) → s.equation ≡ equation →
                    IsValueOf F (numbers m now v (env table given.outside)) kind equation (get_or (numbers m start v given).signals n []) (map (number_at m now v) (get_or table n []))
                by_kind Input e equation its = as_given (inl e)
                by_kind Register e equation its = as_given (inr e)
                by_kind Wire e None its = no_equation Wire (inl refl) e its
                by_kind Wire e (Some f) its = as_driven f (formed.order.wires n (s, (is, e))) its
                by_kind Pad e None its = no_equation Pad (inr refl) e its
                by_kind Pad e (Some f) its = as_driven f (formed.order.pads n (s, (is, e))) its
