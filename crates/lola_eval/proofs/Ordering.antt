-- The loop over the order of equations.
use Rattle.std.proofs.Common.{◌≡◌, ℕ, zero, suc, ◌+◌, ◌<◌, ◌≤◌, List, [], ◌∷◌, ◌++◌, length, take, drop, get_or, set, Some, refl, sym, ◌∙◌, ap, subst, arith, take-append-drop}
use Rattle.std.proofs.lemmas.List.{take_all, drop_more}
use Rattle.std.proofs.lemmas.Option.{slice_get_within}
use Rattle.lola_bits.specs.Lists.{IsIn}
use Rattle.lola_bits.proofs.Places.{drop_item, take_item, item_in}
use Rattle.lola_alg.specs.Algebra.{Calls, Meaning}
use Rattle.lola_alg.specs.Steps.{into}
use Rattle.lola_flat.specs.Tree.{ExprTree, FlatTree}
use Rattle.lola_flat.specs.Value.{Env, env, mapped, Fits}
use Rattle.lola_flat.specs.Formed.{IsFormed}
use Rattle.lola_flat.proofs.OneCycle.{has_equation}
use Rattle.lola_eval.specs.Steps.{equation_in, equation_of, equation_step, signals_step, with_vector}
use Rattle.lola_eval.specs.Means.{AreGivenBits, EnvKnown, MeansValue, MeansCycle}
use Rattle.lola_eval.proofs.Placed.{in_order, Placed, next_fits, placed_more, placed_cycle}

module _ (F : FlatTree) (formed : IsFormed F) where
  order_within : (at n : ℕ) → at < length F.order → n ≡ get_or F.order at n → IsIn n F.order
  order_within at n within is = item_in F.order at n within is

  -- numbers of the order are those of signals
  pub number_within : (n : ℕ) → IsIn n F.order → n < length F.signals
  number_within n among = let found = in_order F formed n among in slice_get_within F.signals n found.0 found.1.0

  module _ {D B : Type 0} (m : Meaning D B) (given : Env (List B)) (start : D) (fit : AreGivenBits F given) (known : EnvKnown m start given) where
    pub fits_here : (at n : ℕ) → at < length F.order → n ≡ get_or F.order at n → (now : D) (table : List (List (List B))) → Placed F m given start (take at F.order) now table →
        (e : ExprTree) → equation_of F n ≡ Some e → Fits (mapped length (env table given.outside)) e
    fits_here at n within is now table placed e equation =
        let split : F.order ≡ take at F.order ++ n ∷ drop (at + 1) F.order = sym (take-append-drop at F.order) ∙ ap (λ l. take at F.order ++ l) (drop_item F.order at n within is) in
        let found = in_order F formed n (order_within at n within is) in
        next_fits F formed m given start fit known (take at F.order) (drop (at + 1) F.order) n split now table placed found.0 found.1.0 e (sym (ap equation_in found.1.0) ∙ equation)

    pub more_placed : (at n : ℕ) → at < length F.order → n ≡ get_or F.order at n → (now : D) (table : List (List (List B))) → Placed F m given start (take at F.order) now table →
        (later : D) (x : List B) → ((e : ExprTree) → equation_of F n ≡ Some e → MeansValue m (env table given.outside) e now (later, x)) → Placed F m given start (take (at + 1) F.order) later (set table n (x ∷ []))
    more_placed at n within is now table placed later x means =
        let split : F.order ≡ take at F.order ++ n ∷ drop (at + 1) F.order = sym (take-append-drop at F.order) ∙ ap (λ l. take at F.order ++ l) (drop_item F.order at n within is) in
        let found = in_order F formed n (order_within at n within is) in
        let its = has_equation found.0.kind found.0.equation found.1.1 (formed.signals n found.0 found.1.0).equation in
        subst (λ l. Placed F m given start l later (set table n (x ∷ []))) (sym (take_item F.order at n within is))
        (placed_more F formed m given start fit known (take at F.order) (drop (at + 1) F.order) n split now table placed found.0 found.1.0 its.0 its.1 later x (means its.0 (ap equation_in found.1.0 ∙ its.1)))

    pub all_placed : (at : ℕ) → length F.order ≤ at → (now : D) (table : List (List (List B))) → Placed F m given start (take at F.order) now table → MeansCycle m F given start now table
    all_placed at past now table placed =
        placed_cycle F formed m given start fit known now table (subst (λ l. Placed F m given start l now table) (take_all at F.order past) placed)

  -- the same over a list that is the order
  module _ {D B : Type 0} (m : Meaning D B) (given : Env (List B)) (start : D) (fit : AreGivenBits F given) (known : EnvKnown m start given) (order : List ℕ) (same : order ≡ F.order) (at : ℕ) (within : at < length order) where
    inside : at < length F.order
    inside = subst (λ l. at < length l) same within

    is_here : get_or order at 0 ≡ get_or F.order at (get_or order at 0)
    is_here = ap (λ l. get_or l at 0) same ∙ at_default F.order at inside
      where
        at_default : (xs : List ℕ) (i : ℕ) → i < length xs → get_or xs i 0 ≡ get_or xs i (get_or order at 0)
        at_default [] i within = absurd (omega arith)
        at_default (x ∷ xs) zero within = refl
        at_default (x ∷ xs) (suc i) within = at_default xs i (omega arith)

    pub order_number : get_or order at 0 < length F.signals
    order_number = number_within (get_or order at 0) (order_within at (get_or order at 0) inside is_here)

    module _ (now : D) (table : List (List (List B))) (placed : Placed F m given start (take at order) now table) where
      here : Placed F m given start (take at F.order) now table
      here = subst (λ l. Placed F m given start (take at l) now table) same placed

      pub order_fits : (e : ExprTree) → equation_of F (get_or order at 0) ≡ Some e → Fits (mapped length (env table given.outside)) e
      order_fits = fits_here m given start fit known at (get_or order at 0) inside is_here now table here

      pub order_table : get_or order at 0 < length table
      order_table = subst (λ k. get_or order at 0 < k) (sym placed.long) order_number

      pub order_more : (later : D) (x : List B) → ((e : ExprTree) → equation_of F (get_or order at 0) ≡ Some e → MeansValue m (env table given.outside) e now (later, x)) →
          Placed F m given start (take (at + 1) order) later (set table (get_or order at 0) (x ∷ []))
      order_more later x means =
          subst (λ l. Placed F m given start (take (at + 1) l) later (set table (get_or order at 0) (x ∷ []))) (sym same)
          (more_placed m given start fit known at (get_or order at 0) inside is_here now table here later x means)

  pub order_done : {D B : Type 0} (m : Meaning D B) (given : Env (List B)) (start : D) → AreGivenBits F given → EnvKnown m start given → (order : List ℕ) → order ≡ F.order → (at : ℕ) → length order ≤ at →
      (now : D) (table : List (List (List B))) → Placed F m given start (take at order) now table → MeansCycle m F given start now table
  order_done m given start fit known order same at past now table placed =
      all_placed m given start fit known at (subst (λ l. length l ≤ at) same past) now table (subst (λ l. Placed F m given start (take at l) now table) same placed)

-- one step of the order
module _ {D B : Type 0} (c : Calls D B) (F : FlatTree) (table : List (List (List B))) (outer : List (List B)) (order : List ℕ) (at : ℕ) (d : D) (within : at < length order) where
  item : drop at order ≡ get_or order at 0 ∷ drop (at + 1) order
  item = drop_more order at 0 within

  pub step_more : (later : D) (x : List B) → equation_step c (env table outer) (equation_of F (get_or order at 0)) d ≡ Some (later, x) →
      signals_step c F (env table outer) (drop at order) d ≡ signals_step c F (env (set table (get_or order at 0) (x ∷ [])) outer) (drop (at + 1) order) later
  step_more later x made =
      ap (λ l. signals_step c F (env table outer) l d) item
      ∙ ap (λ o. into o (λ y e. signals_step c F (with_vector (env table outer) (get_or order at 0) y) (drop (at + 1) order) e)) made
