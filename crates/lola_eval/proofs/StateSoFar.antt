-- The next values of registers, signal by signal.
use Rattle.std.proofs.Common.{◌≡◌, ℕ, zero, suc, ◌+◌, ◌<◌, ◌⊎◌, List, [], ◌∷◌, ◌++◌, length, map, drop, get_or, Option, Some, None, inl, inr, refl, sym, ◌∙◌, ap, subst, arith}
use Rattle.std.specs.Prelude.{slice_get}
use Rattle.std.proofs.lemmas.Bool.{cases_lt}
use Rattle.std.proofs.Math.ListN.{get_or-map}
use Rattle.lola_bits.proofs.Options.{some_same}
use Rattle.std.specs.List.{AllByRecursion}
use Rattle.std.proofs.lemmas.List.{length-map}
use Rattle.std.proofs.lemmas.Option.{slice_get_within}
use Rattle.lola_bits.proofs.All.{all_append, at_any_place}
use Rattle.lola_bits.proofs.Places.{drop_found, length_more}
use Rattle.lola_alg.specs.Algebra.{Calls, Meaning, Stays}
use Rattle.lola_alg.specs.Steps.{into}
use Rattle.lola_alg.specs.Loops.{GoesOn}
use Rattle.lola_alg.specs.Means.{AreKnown, number_at}
use Rattle.lola_alg.proofs.BitMeans.{stays_same}
use Rattle.lola_alg.proofs.Loops.{goes_on_more, stays_then}
use Rattle.lola_flat.specs.Tree.{SignalTree, FlatTree}
use Rattle.lola_flat.specs.Value.{Env, env, elements}
use Rattle.lola_flat.specs.Signals.{IsSignal, widths_of}
use Rattle.lola_flat.specs.Cycle.{next_elements, IsNextOf}
use Rattle.lola_eval.specs.Steps.{kind_step, state_step}
use Rattle.lola_eval.specs.Means.{EnvKnown, numbers, MeansBehind, MeansState}
use Rattle.lola_eval.proofs.Kept.{numbers_stay, signals_known, env_stay}

module _ {D B : Type 0} (m : Meaning D B) (F : FlatTree) (E : Env (List B)) (start : D) where
  -- what stands there for the first signals
  pub record StateSoFar (at : ℕ) (now : D) (made : List (List (List B))) : Type 0 where
    pub stays : Stays m start now
    pub known : AllByRecursion (AllByRecursion (AreKnown m now)) made
    pub long : length made ≡ at
    pub each : (n : ℕ) (s : SignalTree) → n < at → IsSignal F n s → MeansBehind m F E n s start now (get_or made n [])

  pub none_so_far : StateSoFar 0 start []
  none_so_far = record { stays = stays_same m start; known = tt; long = refl; each = λ n s below is. absurd (omega arith) }

  -- what is there stays in front of one more
  before_last : (made : List (List (List B))) (x : List (List B)) (n : ℕ) → n < length made → get_or (made ++ x ∷ []) n [] ≡ get_or made n []
  before_last [] x n within = absurd (omega arith)
  before_last (y ∷ made) x zero within = refl
  before_last (y ∷ made) x (suc n) within = before_last made x n (omega arith)

  the_last : (made : List (List (List B))) (x : List (List B)) → get_or (made ++ x ∷ []) (length made) [] ≡ x
  the_last [] x = refl
  the_last (y ∷ made) x = the_last made x

  later_behind : (n : ℕ) (s : SignalTree) (now later : D) (vectors : List (List B)) → Stays m now later → AllByRecursion (AreKnown m now) vectors → MeansBehind m F E n s start now vectors → MeansBehind m F E n s start later vectors
  later_behind n s now later vectors stays known b = record {
    wide = b.wide;
    means = λ v. subst (IsNextOf s.kind (next_elements (widths_of F) (numbers m start v E) s.place s.equation (get_or (numbers m start v E).signals n []))) (sym (numbers_stay m now later vectors stays known v)) (b.means v);
  }

  -- since the start, where the signals kept their numbers
  since_start : (n : ℕ) (s : SignalTree) (now later : D) (vectors : List (List B)) → Stays m start now → EnvKnown m start E → MeansBehind m F E n s now later vectors → MeansBehind m F E n s start later vectors
  since_start n s now later vectors stays known b = record {
    wide = b.wide;
    means = λ v. subst (λ (N : Env ℕ). IsNextOf s.kind (next_elements (widths_of F) N s.place s.equation (get_or N.signals n [])) (map (number_at m later v) vectors)) (env_stay m start now E stays known v) (b.means v);
  }

  pub one_more : EnvKnown m start E → (at : ℕ) (now later : D) (made : List (List (List B))) (x : List (List B)) (s : SignalTree) → IsSignal F at s → StateSoFar at now made → Stays m now later → AllByRecursion (AreKnown m later) x →
      MeansBehind m F E at s now later x → (items : List (List (List B))) → items ≡ made ++ x ∷ [] → StateSoFar (at + 1) later items
  one_more known at now later made x s is so stays x_known behind items all = subst (StateSoFar (at + 1) later) (sym all) (record {
    stays = stays_then m start now later so.stays stays;
    known = all_append (AllByRecursion (AreKnown m later)) made (x ∷ []) (signals_known m now later made stays so.known) (x_known, tt);
    long = length_more made x ∙ (let e : length made ≡ at = so.long in omega arith);
    each = λ n t below there. elim (before_or_last n below) [
      | inl before ↦
          subst (MeansBehind m F E n t start later) (sym (before_last made x n (subst (λ k. n < k) (sym so.long) before)))
          (later_behind n t now later (get_or made n []) stays (at_any_place (AllByRecursion (AreKnown m now)) made n [] tt so.known) (so.each n t before there))
      | inr last ↦ at_last n t last there
    ];
  })
    where
      before_or_last : (n : ℕ) → n < at + 1 → (n < at) ⊎ (n ≡ at)
      before_or_last n below = elim (cases_lt n at) [ inl less ↦ inl less | inr more ↦ inr (omega arith) ]

      at_last : (n : ℕ) (t : SignalTree) → n ≡ at → IsSignal F n t → MeansBehind m F E n t start later (get_or (made ++ x ∷ []) n [])
      at_last n t last there =
          let same : s ≡ t = some_same s t (sym is ∙ ap (λ k. slice_get F.signals k) (sym last) ∙ there) in
          subst (λ (k : ℕ). MeansBehind m F E k t start later (get_or (made ++ x ∷ []) k [])) (sym last)
          (subst (λ (y : List (List B)). MeansBehind m F E at t start later y) (sym (ap (λ k. get_or (made ++ x ∷ []) k []) (sym so.long) ∙ the_last made x))
          (subst (λ (u : SignalTree). MeansBehind m F E at u start later x) same (since_start at s now later x so.stays known behind)))

pub all_so_far : {D B : Type 0} (m : Meaning D B) (F : FlatTree) (signals : List (List (List B))) (start : D) (at : ℕ) (now : D) (made : List (List (List B))) → length F.signals ≡ at →
    StateSoFar m F (env signals []) start at now made → MeansState m F signals start now made
all_so_far m F signals start at now made past so = record {
  stays = so.stays;
  known = so.known;
  wide = λ n s is kind. (so.each n s (subst (λ k. n < k) past (slice_get_within F.signals n s is)) is).wide kind;
  means = λ v. record {
    long = length-map made (map (number_at m now v)) ∙ so.long ∙ sym past;
    each = λ n s is. subst (IsNextOf s.kind (next_elements (widths_of F) (numbers m start v (env signals [])) s.place s.equation (get_or (numbers m start v (env signals [])).signals n []))) (sym (get_or-map (map (number_at m now v)) made n []))
        ((so.each n s (subst (λ k. n < k) past (slice_get_within F.signals n s is)) is).means v);
  };
}

-- one signal more
pub state_more : {D B : Type 0} (c : Calls D B) (E : Env (List B)) (F : FlatTree) (at : ℕ) (s : SignalTree) (d later : D) (x : List (List B)) (made : List (List (List B))) (whole : Option (D × List (List (List B)))) → IsSignal F at s →
    kind_step c E s.kind s (elements E at) d ≡ Some (later, x) → GoesOn whole made (state_step c E (drop at F.signals) at d) → (items : List (List (List B))) → items ≡ made ++ x ∷ [] →
    GoesOn whole items (state_step c E (drop (at + 1) F.signals) (at + 1) later)
state_more c E F at s d later x made whole is step so items all =
    let first : state_step c E (drop at F.signals) at d ≡ into (state_step c E (drop (at + 1) F.signals) (at + 1) later) (λ more f. Some (f, x ∷ more)) =
    ap (λ l. state_step c E l at d) (drop_found F.signals at s is ∙ ap (λ k. s ∷ drop k F.signals) (let e : suc at ≡ at + 1 = omega arith in e))
    ∙ ap (λ o. into o (λ y f. into (state_step c E (drop (at + 1) F.signals) (at + 1) f) (λ ys g. Some (g, y ∷ ys)))) step in
    subst (λ l. GoesOn whole l (state_step c E (drop (at + 1) F.signals) (at + 1) later)) (sym all)
    (goes_on_more whole made x (state_step c E (drop (at + 1) F.signals) (at + 1) later) (subst (GoesOn whole made) first so))

pub state_full : {D B : Type 0} (c : Calls D B) (E : Env (List B)) (F : FlatTree) (at : ℕ) (s : SignalTree) (d : D) (made : List (List (List B))) (whole : Option (D × List (List (List B)))) → IsSignal F at s →
    kind_step c E s.kind s (elements E at) d ≡ None → GoesOn whole made (state_step c E (drop at F.signals) at d) → whole ≡ None
state_full c E F at s d made whole is none so =
    let first : state_step c E (drop at F.signals) at d ≡ None =
    ap (λ l. state_step c E l at d) (drop_found F.signals at s is) ∙ ap (λ o. into o (λ y f. into (state_step c E (drop (suc at) F.signals) (at + 1) f) (λ ys g. Some (g, y ∷ ys)))) none in
    so ∙ ap (λ o. into o (λ more d. Some (d, made ++ more))) first
