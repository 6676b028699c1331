-- Along the order of equations the nodes have the numbers of the design's cycle.
use Rattle.std.proofs.Common.{◌≡◌, ◌≢◌, ◌⊎◌, ℕ, zero, suc, ◌+◌, ◌<◌, ◌≤◌, ◌^◌, Bool, true, false, cond, List, [], ◌∷◌, ◌++◌, length, map, flat_map, get_or, set, Option, Some, None, inl, inr, refl, sym, ◌∙◌, ap, ap₂, subst, arith, append_assoc, append-nil}
use Rattle.std.specs.Prelude.{slice_get, ◌/◌}
use Rattle.std.specs.List.{AllByRecursion}
use Rattle.std.proofs.lemmas.List.{get_or-set_same, get_or-set_other}
use Rattle.std.proofs.lemmas.Option.{slice_get_within}
use Rattle.lola_bits.specs.Lists.{IsIn, AreDistinct}
use Rattle.lola_bits.proofs.All.{all_of, of_all, at_any_place}
use Rattle.lola_bits.proofs.Lists.{but_last, is_between, apart}
use Rattle.lola_bits.proofs.Options.{some_same}
use Rattle.lola_alg.specs.Algebra.{Stays}
use Rattle.lola_alg.specs.Means.{AreKnown, number_at}
use Rattle.lola_net.specs.declared.node.Node.{Node}
use Rattle.lola_net.specs.Literals.{at_node}
use Rattle.lola_net.specs.Run.{Sources, node_values}
use Rattle.lola_gate.specs.Gates.{gates_meaning}
use Rattle.lola_flat.specs.declared.design.SigKind.{SigKind}
use Rattle.lola_flat.specs.declared.design.SigKind.TheVariants.{Input, Pad, Wire, Register}
use Rattle.lola_flat.specs.Tree.{ExprTree, SignalTree, FlatTree}
use Rattle.lola_flat.specs.Value.{Env, env, mapped, elements, value, Read, vector_of, array_of, outside_of, reads}
use Rattle.lola_flat.specs.Signals.{IsSignal, IsClock, HaveSame, widths_of}
use Rattle.lola_flat.specs.Formed.{IsKind, NotOutside, IsFormed}
use Rattle.lola_flat.specs.Cycle.{IsCycle}
use Rattle.lola_flat.proofs.SameReads.{value_same}
use Rattle.lola_eval.specs.Means.{EnvKnown, MeansValue, numbers}
use Rattle.lola_eval.proofs.Kept.{elements_mapped, elements_known, numbers_stay, env_known}
use Rattle.lola_eval.proofs.Placed.{two_kinds}
use Rattle.lola_lower.specs.Cycles.{outside_in}
use Rattle.lola_lower.specs.Ready.{IsReady}
use Rattle.lola_lower.proofs.Started.{sources, rest_after}
use Rattle.lola_lower.proofs.Rows.{number_by, numbers_by}
use Rattle.lola_lower.proofs.Shown.{all_stay, meaning_is, meanings_are}
use Rattle.lola_lower.proofs.Steps.{IsThere, vector_there, array_there, same}

module _ (F : FlatTree) (formed : IsFormed F) (outside : List ℕ) (N : List (List ℕ)) (s0 : Sources) where
  -- what is still to come for pads
  abbrev pub left : List ℕ → List Bool
  left ns = flat_map (λ (n : ℕ). outside_in (slice_get F.signals n) (get_or outside n 0)) ns

  pub record IsShown (before ns : List ℕ) (d : List Node) (table : List (List (List ℕ))) : Type 0 where
    pub each : (k : ℕ) (s : SignalTree) → IsSignal F k s → (IsClock F s → ⊥) → (s.kind ≡ Input) ⊎ ((s.kind ≡ Register) ⊎ IsIn k before) → numbers_by (node_values s0 d) (get_or table k []) ≡ get_or N k []
    pub rest : rest_after s0 d ≡ sources [] [] (left ns)

  module _ (before after : List ℕ) (n : ℕ) (split : F.order ≡ before ++ n ∷ after) (d : List Node) (table : List (List (List ℕ))) (ready : IsReady F before d table) (s : SignalTree) (is : IsSignal F n s) (shown : IsShown before (n ∷ after) d table) where
    -- the number of a part of the equation
    module _ (e : ExprTree) (equation : s.equation ≡ Some e) (f : ExprTree) (part : (r : Read) → IsIn r (reads f) → IsIn r (reads e)) (inside : AllByRecursion NotOutside (reads f))
        (now : List Node) (stays : Stays gates_meaning d now) (made : List Node × List ℕ) (more : List Node) (grown : made.0 ≡ d ++ more) (means : MeansValue gates_meaning (env table []) f now made) where
      v : ℕ → Bool
      v = at_node (node_values s0 made.0)

      number_there : (k : ℕ) → IsThere F formed before after n split d table ready s is e equation k → get_or N k [] ≡ elements (numbers gates_meaning now (at_node (node_values s0 made.0)) (env table [])) k
      number_there k t =
          let vectors : List (List ℕ) = get_or table k [] in
          sym (shown.each k t.signal t.there t.no_clock_is t.kind)
          ∙ sym (all_stay s0 d more vectors (elements_known gates_meaning d (env table []) k ready.known))
          ∙ ap (λ g. numbers_by (node_values s0 g) vectors) (sym grown)
          ∙ sym (meanings_are s0 made.0 vectors)
          ∙ numbers_stay gates_meaning now made.0 vectors means.stays (elements_known gates_meaning now (env table []) k (env_known gates_meaning d now (env table []) stays ready.known)) (at_node (node_values s0 made.0))
          ∙ sym (elements_mapped (number_at gates_meaning now (at_node (node_values s0 made.0))) (env table []) k)

      same_number : (r : Read) → IsIn r (reads e) → NotOutside r → HaveSame (env N outside) (numbers gates_meaning now (at_node (node_values s0 made.0)) (env table [])) r
      same_number (vector_of k) read into = number_there k (vector_there F formed before after n split d table ready s is e equation k read)
      same_number (array_of k) read into = number_there k (array_there F formed before after n split d table ready s is e equation k read)
      same_number (outside_of k) read into = absurd into

      pub part_value : number_by (node_values s0 made.0) made.1 ≡ value (widths_of F) (env N outside) f
      part_value =
          sym (meaning_is s0 made.0 made.1) ∙ means.means (at_node (node_values s0 made.0))
          ∙ sym (value_same (widths_of F) (mapped length (env table [])) (env N outside) (numbers gates_meaning now (at_node (node_values s0 made.0)) (env table [])) f
          (same F formed before after n split d table ready s is e equation f part inside)
          (all_of (HaveSame (env N outside) (numbers gates_meaning now (at_node (node_values s0 made.0)) (env table []))) (reads f) (λ r read. same_number r (part r read) (of_all NotOutside r (reads f) inside read))))

    -- with the number of the signal, all is shown behind it
    pub shown_more : (made : List Node × List ℕ) (more : List Node) → made.0 ≡ d ++ more → number_by (node_values s0 made.0) made.1 ∷ [] ≡ get_or N n [] → rest_after s0 made.0 ≡ sources [] [] (left after) →
        IsShown (before ++ n ∷ []) after made.0 (set table n (made.1 ∷ []))
    shown_more made more grown number rest = record {
      each = λ k t there clock kind. elim kind [
        | inl input ↦ old k t there clock (inl input) (given k t there (inl input))
        | inr others ↦ elim others [
          | inl register ↦ old k t there clock (inr (inl register)) (given k t there (inr register))
          | inr among ↦ elim (but_last k n before among) [ inl here ↦ new k here | inr earlier ↦ old k t there clock (inr (inr earlier)) (λ e. once (subst (λ j. IsIn j before) e earlier)) ]
        ]
      ];
      rest = rest;
    }
      where
        once : IsIn n before → ⊥
        once earlier = apart n before (n ∷ after) (subst AreDistinct split formed.order.once) earlier (inl refl)

        here_is : IsIn n F.order
        here_is = subst (IsIn n) (sym split) (is_between n before after)

        given : (k : ℕ) (t : SignalTree) → IsSignal F k t → (t.kind ≡ Input) ⊎ (t.kind ≡ Register) → k ≢ n
        given k t there (inl kind) e = elim (formed.order.only n here_is) [ inl w ↦ (let f = two_kinds F n Input Wire (subst (λ j. IsKind F j Input) e (t, (there, kind))) w in cc) | inr w ↦ (let f = two_kinds F n Input Pad (subst (λ j. IsKind F j Input) e (t, (there, kind))) w in cc) ]
        given k t there (inr kind) e = elim (formed.order.only n here_is) [ inl w ↦ (let f = two_kinds F n Register Wire (subst (λ j. IsKind F j Register) e (t, (there, kind))) w in cc) | inr w ↦ (let f = two_kinds F n Register Pad (subst (λ j. IsKind F j Register) e (t, (there, kind))) w in cc) ]

        old : (k : ℕ) (t : SignalTree) → IsSignal F k t → (IsClock F t → ⊥) → (t.kind ≡ Input) ⊎ ((t.kind ≡ Register) ⊎ IsIn k before) → k ≢ n → numbers_by (node_values s0 made.0) (get_or (set table n (made.1 ∷ [])) k []) ≡ get_or N k []
        old k t there clock kind other =
            ap (numbers_by (node_values s0 made.0)) (get_or-set_other table n k (made.1 ∷ []) [] other)
            ∙ ap (λ g. numbers_by (node_values s0 g) (get_or table k [])) grown
            ∙ all_stay s0 d more (get_or table k []) (elements_known gates_meaning d (env table []) k ready.known)
            ∙ shown.each k t there clock kind

        new : (k : ℕ) → k ≡ n → numbers_by (node_values s0 made.0) (get_or (set table n (made.1 ∷ [])) k []) ≡ get_or N k []
        new k e =
            subst (λ j. numbers_by (node_values s0 made.0) (get_or (set table n (made.1 ∷ [])) j []) ≡ get_or N j []) (sym e)
            (ap (numbers_by (node_values s0 made.0)) (get_or-set_same table n (made.1 ∷ []) [] (subst (λ k. n < k) (sym ready.long) (slice_get_within F.signals n s is))) ∙ number)
