-- What holds of the nodes and the table before the signals, and is kept by each signal that is made, holds behind the order of equations.
use Rattle.std.proofs.Common.{◌≡◌, ◌⊎◌, ℕ, List, [], ◌∷◌, ◌++◌, set, Option, Some, inl, inr, sym, ◌∙◌, subst, append_assoc, append-nil}
use Rattle.std.specs.Prelude.{slice_get}
use Rattle.lola_bits.specs.Lists.{IsIn}
use Rattle.lola_bits.proofs.Lists.{is_between}
use Rattle.lola_bits.proofs.Options.{some_same}
use Rattle.lola_alg.proofs.BitMeans.{into_made}
use Rattle.lola_net.specs.declared.node.Node.{Node}
use Rattle.lola_gate.specs.Gates.{gates_calls}
use Rattle.lola_flat.specs.declared.design.SigKind.TheVariants.{Pad, Wire}
use Rattle.lola_flat.specs.Tree.{SignalTree, FlatTree}
use Rattle.lola_flat.specs.Value.{env}
use Rattle.lola_flat.specs.Signals.{IsSignal}
use Rattle.lola_flat.specs.Formed.{IsFormed}
use Rattle.lola_eval.specs.Steps.{equation_step}
use Rattle.lola_eval.proofs.Placed.{in_order}
use Rattle.lola_lower.specs.Steps.{signal_step, some_step, order_step}
use Rattle.lola_lower.specs.Ready.{IsReady}
use Rattle.lola_lower.proofs.Steps.{PadMade, pad_made, wire_step, its_pad_step, is_made, ready_more}

module _ (F : FlatTree) (formed : IsFormed F) where
  -- what a signal makes: a wire its equation, a pad its parts
  abbrev pub Made : (before after : List ℕ) (n : ℕ) (split : F.order ≡ before ++ n ∷ after) (d : List Node) (table : List (List (List ℕ))) (ready : IsReady F before d table) (s : SignalTree) (is : IsSignal F n s) → List Node × List ℕ → Type 0
  Made before after n split d table ready s is made =
      ((s.kind ≡ Wire) × (equation_step gates_calls (env table []) s.equation d ≡ Some made)) ⊎ ((s.kind ≡ Pad) × PadMade F formed before after n split d table ready s is made)

  made_of : (before after : List ℕ) (n : ℕ) (split : F.order ≡ before ++ n ∷ after) (d : List Node) (table : List (List (List ℕ))) (ready : IsReady F before d table) (s : SignalTree) (is : IsSignal F n s) (made : List Node × List ℕ) →
      (s.kind ≡ Wire) ⊎ (s.kind ≡ Pad) → signal_step (env table []) s d ≡ Some made → Made before after n split d table ready s is made
  made_of before after n split d table ready s is made (inl w) step = inl (w, sym (wire_step F formed before after n split d table ready s is w) ∙ step)
  made_of before after n split d table ready s is made (inr p) step = inr (p, pad_made F formed before after n split d table ready s is p made (sym (its_pad_step F formed before after n split d table ready s is p) ∙ step))

  module _ (P : (before left : List ℕ) → List Node → List (List (List ℕ)) → Type 0)
      (each : (before after : List ℕ) (n : ℕ) (split : F.order ≡ before ++ n ∷ after) (d : List Node) (table : List (List (List ℕ))) (ready : IsReady F before d table) (s : SignalTree) (is : IsSignal F n s) (made : List Node × List ℕ) →
      Made before after n split d table ready s is made → P before (n ∷ after) d table → P (before ++ n ∷ []) after made.0 (set table n (made.1 ∷ []))) where
    pub all_steps : (before after : List ℕ) → F.order ≡ before ++ after → (d : List Node) (table : List (List (List ℕ))) → IsReady F before d table → P before after d table → (made : List Node × List (List (List ℕ))) →
        order_step F (env table []) after d ≡ Some made → IsReady F F.order made.0 made.1 × P F.order [] made.0 made.1
    all_steps before [] split d table ready p made step =
        subst (λ (m : List Node × List (List (List ℕ))). IsReady F F.order m.0 m.1 × P F.order [] m.0 m.1) (some_same (d, table) made step)
        (subst (λ (b : List ℕ). IsReady F b d table × P b [] d table) (sym (split ∙ append-nil before)) (ready, p))
    all_steps before (n ∷ after) split d table ready p made step =
        let i = into_made (some_step (env table []) (slice_get F.signals n) d) _ made step in
        let found = in_order F formed n (subst (IsIn n) (sym split) (is_between n before after)) in
        let its : signal_step (env table []) found.0 d ≡ Some i.0 = subst (λ (o : Option SignalTree). some_step (env table []) o d ≡ Some i.0) found.1.0 i.1.0 in
        let next = ready_more F formed before after n split d table ready found.0 found.1.0 i.0 (is_made F formed before after n split d table ready found.0 found.1.0 i.0 its) in
        all_steps (before ++ n ∷ []) after (split ∙ sym (append_assoc before (n ∷ []) after)) i.0.0 (set table n (i.0.1 ∷ [])) next
        (each before after n split d table ready found.0 found.1.0 i.0 (made_of before after n split d table ready found.0 found.1.0 i.0 found.1.1 its) p) made i.1.1
