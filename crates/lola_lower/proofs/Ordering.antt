-- The loop over the order of equations.
use Rattle.std.proofs.Common.{◌≡◌, ℕ, zero, suc, ◌+◌, ◌<◌, ◌≤◌, List, [], ◌∷◌, ◌++◌, length, take, drop, get_or, set, Option, Some, refl, sym, ◌∙◌, ap, subst, arith, take-append-drop}
use Rattle.std.specs.Prelude.{slice_get}
use Rattle.std.proofs.lemmas.List.{take_all, drop_more}
use Rattle.std.proofs.lemmas.Option.{slice_get_within}
use Rattle.lola_bits.specs.Lists.{IsIn}
use Rattle.lola_bits.proofs.Lists.{is_between}
use Rattle.lola_bits.proofs.Places.{take_item}
use Rattle.lola_alg.specs.Steps.{into}
use Rattle.lola_net.specs.declared.node.Node.{Node}
use Rattle.lola_flat.specs.Tree.{SignalTree, FlatTree}
use Rattle.lola_flat.specs.Value.{env}
use Rattle.lola_flat.specs.Signals.{IsSignal}
use Rattle.lola_flat.specs.Formed.{IsFormed}
use Rattle.lola_eval.specs.Steps.{with_vector}
use Rattle.lola_eval.proofs.Placed.{in_order}
use Rattle.lola_lower.specs.Steps.{some_step, order_step}
use Rattle.lola_lower.specs.Ready.{SignalSuits, IsReady}
use Rattle.lola_lower.proofs.Steps.{next_suits, is_made, ready_more}

at_default : (xs : List ℕ) (i z y : ℕ) → i < length xs → get_or xs i z ≡ get_or xs i y
at_default [] i z y within = absurd (omega arith)
at_default (x ∷ xs) zero z y within = refl
at_default (x ∷ xs) (suc i) z y within = at_default xs i z y (omega arith)

module _ (F : FlatTree) (formed : IsFormed F) (order : List ℕ) (same : order ≡ F.order) (at : ℕ) (within : at < length order) where
  here : drop at order ≡ get_or order at 0 ∷ drop (at + 1) order
  here = drop_more order at 0 within

  split : F.order ≡ take at order ++ get_or order at 0 ∷ drop (at + 1) order
  split = sym same ∙ sym (take-append-drop at order) ∙ ap (λ l. take at order ++ l) here

  among : IsIn (get_or order at 0) F.order
  among = subst (IsIn (get_or order at 0)) (sym split) (is_between (get_or order at 0) (take at order) (drop (at + 1) order))

  pub order_number : get_or order at 0 < length F.signals
  order_number = let found = in_order F formed (get_or order at 0) among in slice_get_within F.signals (get_or order at 0) found.0 found.1.0

  module _ (d : List Node) (table : List (List (List ℕ))) (ready : IsReady F (take at order) d table) where
    pub order_table : get_or order at 0 < length table
    order_table = subst (λ k. get_or order at 0 < k) (sym ready.long) order_number

    pub order_suits : (s : SignalTree) → IsSignal F (get_or order at 0) s → SignalSuits (env table []) s
    order_suits s is = next_suits F formed (take at order) (drop (at + 1) order) (get_or order at 0) split d table ready s is

    module _ (later : List Node) (x : List ℕ) (step : some_step (env table []) (slice_get F.signals (get_or order at 0)) d ≡ Some (later, x)) where
      pub order_more : IsReady F (take (at + 1) order) later (set table (get_or order at 0) (x ∷ []))
      order_more =
          let found = in_order F formed (get_or order at 0) among in
          let made = is_made F formed (take at order) (drop (at + 1) order) (get_or order at 0) split d table ready found.0 found.1.0 (later, x)
          (subst (λ (o : Option SignalTree). some_step (env table []) o d ≡ Some (later, x)) found.1.0 step) in
          subst (λ l. IsReady F l later (set table (get_or order at 0) (x ∷ [])))
          (sym (take_item order at (get_or order at 0) within (at_default order at 0 (get_or order at 0) within)))
          (ready_more F formed (take at order) (drop (at + 1) order) (get_or order at 0) split d table ready found.0 found.1.0 (later, x) made)

      pub step_more : order_step F (env table []) (drop at order) d ≡ order_step F (env (set table (get_or order at 0) (x ∷ [])) []) (drop (at + 1) order) later
      step_more =
          ap (λ l. order_step F (env table []) l d) here
          ∙ ap (λ o. into o (λ y e. order_step F (with_vector (env table []) (get_or order at 0) y) (drop (at + 1) order) e)) step

pub order_done : (F : FlatTree) (order : List ℕ) → order ≡ F.order → (at : ℕ) → length order ≤ at → (d : List Node) (table : List (List (List ℕ))) → IsReady F (take at order) d table → IsReady F F.order d table
order_done F order same at past d table ready = subst (λ l. IsReady F l d table) (take_all at order past ∙ same) ready
