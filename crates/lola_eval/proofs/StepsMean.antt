-- The steps of the signals in order, and of the registers' next values, mean the cycle and the state behind it: without
-- code, for any algebra.
use Rattle.std.proofs.Common.{◌≡◌, ℕ, ◌+◌, Bool, List, [], ◌∷◌, ◌++◌, length, map, get_or, Option, Some, refl, sym, ◌∙◌, ap, subst, arith, append_assoc, append-nil}
use Rattle.std.specs.Prelude.{slice_get}
use Rattle.std.specs.List.{AllByRecursion}
use Rattle.lola_bits.specs.Lists.{IsIn}
use Rattle.lola_bits.proofs.Lists.{is_between}
use Rattle.lola_bits.proofs.Places.{get_back, length_more}
use Rattle.lola_bits.proofs.Options.{some_same}
use Rattle.lola_alg.specs.Algebra.{Calls, Meaning, Stays, IsAlgebra}
use Rattle.lola_alg.specs.Means.{AreKnown, number_at}
use Rattle.lola_alg.proofs.BitMeans.{into_made, stays_same}
use Rattle.lola_flat.specs.declared.design.SigKind.{SigKind}
use Rattle.lola_flat.specs.declared.design.SigKind.TheVariants.{Input, Pad, Wire, Register}
use Rattle.lola_flat.specs.Tree.{ExprTree, SignalTree, FlatTree}
use Rattle.lola_flat.specs.Value.{Env, env}
use Rattle.lola_flat.specs.Signals.{IsSignal, widths_of}
use Rattle.lola_flat.specs.Formed.{IsFormed}
use Rattle.lola_flat.specs.Cycle.{next_elements, IsNextOf}
use Rattle.lola_flat.proofs.OneCycle.{has_equation}
use Rattle.lola_eval.specs.Steps.{equation_in, equation_of, equation_step, signals_step, kind_step, state_step}
use Rattle.lola_eval.specs.Means.{AreGivenBits, AreSignalBits, EnvKnown, numbers, MeansBehind, MeansCycle, MeansState}
use Rattle.lola_eval.proofs.Means.{lower_means}
use Rattle.lola_eval.proofs.Kept.{env_known}
use Rattle.lola_eval.proofs.Placed.{in_order, Placed, placed_none, next_fits, placed_more, placed_cycle}
use Rattle.lola_eval.proofs.NextMeans.{next_means}
use Rattle.lola_eval.proofs.StateSoFar.{StateSoFar, none_so_far, one_more, all_so_far}

module _ {D B : Type 0} (c : Calls D B) (m : Meaning D B) (law : IsAlgebra c m) (F : FlatTree) (formed : IsFormed F) where
  module _ (given : Env (List B)) (start : D) (fit : AreGivenBits F given) (known : EnvKnown m start given) where
    order_placed : (before ns : List ℕ) → F.order ≡ before ++ ns → (now : D) (table : List (List (List B))) → Placed F m given start before now table → (made : D × List (List (List B))) →
        signals_step c F (env table given.outside) ns now ≡ Some made → Placed F m given start F.order made.0 made.1
    order_placed before [] split now table placed made is =
        subst (λ (n : D × List (List (List B))). Placed F m given start F.order n.0 n.1) (some_same (now, table) made is)
        (subst (λ l. Placed F m given start l now table) (sym (split ∙ append-nil before)) placed)
    order_placed before (n ∷ ns) split now table placed made is =
        let i = into_made (equation_step c (env table given.outside) (equation_of F n) now) _ made is in
        let found = in_order F formed n (subst (IsIn n) (sym split) (is_between n before ns)) in
        let its = has_equation found.0.kind found.0.equation found.1.1 (formed.signals n found.0 found.1.0).equation in
        let step : equation_step c (env table given.outside) (Some its.0) now ≡ Some i.0 =
        subst (λ (o : Option ExprTree). equation_step c (env table given.outside) o now ≡ Some i.0) (ap equation_in found.1.0 ∙ its.1) i.1.0 in
        let fits = next_fits F formed m given start fit known before ns n split now table placed found.0 found.1.0 its.0 its.1 in
        let means = lower_means c m law (env table given.outside) its.0 now i.0 fits placed.known step in
        order_placed (before ++ n ∷ []) ns (split ∙ sym (append_assoc before (n ∷ []) ns)) i.0.0 _
        (placed_more F formed m given start fit known before ns n split now table placed found.0 found.1.0 its.0 its.1 i.0.0 i.0.1 means) made i.1.1

    pub signals_mean : (made : D × List (List (List B))) → signals_step c F given F.order start ≡ Some made → MeansCycle m F given start made.0 made.1
    signals_mean made is =
        placed_cycle F formed m given start fit known made.0 made.1 (order_placed [] F.order refl start given.signals (placed_none F formed m given start fit known) made is)

  module _ (signals : List (List (List B))) (start : D) (bits : AreSignalBits F signals) (known : EnvKnown m start (env signals [])) where
    nothing_behind : (n : ℕ) (s : SignalTree) (d : D) (made : D × List (List B)) → (s.kind ≡ Register → ⊥) → ((v : ℕ → Bool) (next : List ℕ) → IsNextOf s.kind next []) → Some (d, []) ≡ Some made →
        Stays m d made.0 × (AllByRecursion (AreKnown m made.0) made.1 × MeansBehind m F (env signals []) n s d made.0 made.1)
    nothing_behind n s d made never none step =
        subst (λ (k : D × List (List B)). Stays m d k.0 × (AllByRecursion (AreKnown m k.0) k.1 × MeansBehind m F (env signals []) n s d k.0 k.1)) (some_same (d, []) made step)
        (stays_same m d, (tt, record { wide = λ r. absurd (never r); means = λ v. none v (next_elements (widths_of F) (numbers m d v (env signals [])) s.place s.equation (get_or (numbers m d v (env signals [])).signals n [])) }))

    kind_means : (n : ℕ) (s : SignalTree) → IsSignal F n s → (kind : SigKind) → s.kind ≡ kind → (d : D) → EnvKnown m d (env signals []) → (made : D × List (List B)) → kind_step c (env signals []) kind s (get_or signals n []) d ≡ Some made →
        Stays m d made.0 × (AllByRecursion (AreKnown m made.0) made.1 × MeansBehind m F (env signals []) n s d made.0 made.1)
    kind_means n s is Register kind d ready made step =
        let a = next_means F formed m (env signals []) bits n s is kind c law d ready made step in (
          a.stays,
          (
            a.known,
            record {
              wide = λ k. a.wide;
              means = λ v. subst (λ k. IsNextOf k (next_elements (widths_of F) (numbers m d v (env signals [])) s.place s.equation (get_or (numbers m d v (env signals [])).signals n [])) (map (number_at m made.0 v) made.1)) (sym kind) (a.means v);
            },
          ),
        )
    kind_means n s is Input kind d ready made step = nothing_behind n s d made (λ r. absurd (let e : Input ≡ Register = sym kind ∙ r in cc)) (λ v next. subst (λ k. IsNextOf k next []) (sym kind) refl) step
    kind_means n s is Pad kind d ready made step = nothing_behind n s d made (λ r. absurd (let e : Pad ≡ Register = sym kind ∙ r in cc)) (λ v next. subst (λ k. IsNextOf k next []) (sym kind) refl) step
    kind_means n s is Wire kind d ready made step = nothing_behind n s d made (λ r. absurd (let e : Wire ≡ Register = sym kind ∙ r in cc)) (λ v next. subst (λ k. IsNextOf k next []) (sym kind) refl) step

    rest_means : (front rest : List SignalTree) → F.signals ≡ front ++ rest → (now : D) (made : List (List (List B))) → StateSoFar m F (env signals []) start (length front) now made → (all : D × List (List (List B))) →
        state_step c (env signals []) rest (length front) now ≡ Some all → StateSoFar m F (env signals []) start (length F.signals) all.0 (made ++ all.1)
    rest_means front [] split now made so all is =
        subst (λ (n : D × List (List (List B))). StateSoFar m F (env signals []) start (length F.signals) n.0 (made ++ n.1)) (some_same (now, []) all is)
        (subst (λ l. StateSoFar m F (env signals []) start (length F.signals) now l) (sym (append-nil made))
        (subst (λ k. StateSoFar m F (env signals []) start k now made) (sym (ap length (split ∙ append-nil front))) so))
    rest_means front (s ∷ rest) split now made so all is =
        let at : ℕ = length front in
        let i = into_made (kind_step c (env signals []) s.kind s (get_or signals at []) now) _ all is in
        let j = into_made (state_step c (env signals []) rest (at + 1) i.0.0) _ all i.1.1 in
        let there : IsSignal F at s = ap (λ l. slice_get l at) split ∙ (let e : length front ≡ length front + 0 = omega arith in ap (λ k. slice_get (front ++ s ∷ rest) k) e ∙ get_back front (s ∷ rest) 0 s refl) in
        let a = kind_means at s there s.kind refl now (env_known m start now (env signals []) so.stays known) i.0 i.1.0 in
        let more = one_more m F (env signals []) start known at now i.0.0 made i.0.1 s there so a.0 a.1.0 a.1.1 (made ++ i.0.1 ∷ []) refl in
        let one : length (front ++ s ∷ []) ≡ at + 1 = length_more front s ∙ (omega arith) in
        let last = rest_means (front ++ s ∷ []) rest (split ∙ sym (append_assoc front (s ∷ []) rest)) i.0.0 (made ++ i.0.1 ∷ [])
        (subst (λ k. StateSoFar m F (env signals []) start k i.0.0 (made ++ i.0.1 ∷ [])) (sym one) more) j.0 (ap (λ k. state_step c (env signals []) rest k i.0.0) one ∙ j.1.0) in
        subst (λ (n : D × List (List (List B))). StateSoFar m F (env signals []) start (length F.signals) n.0 (made ++ n.1)) (some_same (j.0.0, i.0.1 ∷ j.0.1) all j.1.1)
        (subst (λ l. StateSoFar m F (env signals []) start (length F.signals) j.0.0 l) (append_assoc made (i.0.1 ∷ []) j.0.1) last)

    pub state_means : (all : D × List (List (List B))) → state_step c (env signals []) F.signals 0 start ≡ Some all → MeansState m F signals start all.0 all.1
    state_means all is = all_so_far m F signals start (length F.signals) all.0 all.1 refl (rest_means [] F.signals refl start [] (none_so_far m F (env signals []) start) all is)
