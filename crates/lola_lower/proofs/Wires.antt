-- A signal that is no pad has the number of its equation.
use Rattle.std.proofs.Common.{◌≡◌, ◌⊎◌, ℕ, ◌+◌, Bool, cond, List, [], ◌∷◌, ◌++◌, length, map, get_or, set, Option, Some, inl, inr, refl, sym, ◌∙◌, ap, subst}
use Rattle.std.specs.Prelude.{slice_get}
use Rattle.lola_alg.proofs.BitMeans.{stays_same}
use Rattle.lola_net.specs.declared.node.Node.{Node}
use Rattle.lola_net.specs.Run.{Sources}
use Rattle.lola_gate.specs.Gates.{gates_calls, gates_meaning}
use Rattle.lola_flat.specs.declared.design.SigKind.TheVariants.{Wire}
use Rattle.lola_flat.specs.Tree.{ExprTree, SignalTree, FlatTree}
use Rattle.lola_flat.specs.Value.{env}
use Rattle.lola_flat.specs.Signals.{IsSignal}
use Rattle.lola_flat.specs.Formed.{IsFormed}
use Rattle.lola_flat.specs.Cycle.{IsCycle}
use Rattle.lola_flat.proofs.OneCycle.{has_equation, driven_value}
use Rattle.lola_eval.specs.Steps.{equation_step}
use Rattle.lola_lower.specs.Sources.{is_pad}
use Rattle.lola_lower.specs.Cycles.{bits_down, outside_in}
use Rattle.lola_lower.specs.Ready.{IsReady}
use Rattle.lola_lower.proofs.Started.{sources}
use Rattle.lola_lower.proofs.Growth.{equation_grows}
use Rattle.lola_lower.proofs.Shown.{grown_rest}
use Rattle.lola_lower.proofs.Steps.{plain_inside, suits, part_fits, wire_means}
use Rattle.lola_lower.proofs.Followed.{left, IsShown, part_value, shown_more}

module _ (F : FlatTree) (formed : IsFormed F) (given : List (List ℕ)) (outside : List ℕ) (N : List (List ℕ)) (cycle : IsCycle F given outside N) (s0 : Sources) (before after : List ℕ) (n : ℕ) (split : F.order ≡ before ++ n ∷ after)
    (d : List Node) (table : List (List (List ℕ))) (ready : IsReady F before d table) (s : SignalTree) (is : IsSignal F n s) (shown : IsShown F formed outside N s0 before (n ∷ after) d table) where
  pub wire_shown : s.kind ≡ Wire → (made : List Node × List ℕ) → equation_step gates_calls (env table []) s.equation d ≡ Some made → IsShown F formed outside N s0 (before ++ n ∷ []) after made.0 (set table n (made.1 ∷ []))
  wire_shown w made step =
      let found = has_equation s.kind s.equation (inl w) (formed.signals n s is).equation in
      let inside = plain_inside F formed before after n split d table ready s is w found.0 found.1 in
      let fits = part_fits F formed before after n split d table ready s is found.0 found.1 found.0 (λ r read. read) inside (suits F formed before after n split d table ready s is found.0 found.1).fits in
      let grows = equation_grows (env table []) found.0 d made fits ready.known ready.ordered (subst (λ (o : Option ExprTree). equation_step gates_calls (env table []) o d ≡ Some made) found.1 step) in
      let means = wire_means F formed before after n split d table ready s is w found.0 found.1 made step in
      let number = part_value F formed outside N s0 before after n split d table ready s is shown found.0 found.1 found.0 (λ r read. read) inside d (stays_same gates_meaning d) made grows.more grows.is means in
      let due = driven_value F (env N outside) s.kind s.equation (get_or given n []) (get_or N n []) (inl w) found.0 found.1 (cycle.each n s is) in
      let none = ap (λ (o : Option SignalTree). outside_in o (get_or outside n 0)) is ∙ ap (λ k. cond (is_pad k) (bits_down s.width (get_or outside n 0)) []) w in
      shown_more F formed outside N s0 before after n split d table ready s is shown made grows.more grows.is (ap (λ m. m ∷ []) number ∙ sym due)
      (grown_rest s0 d made.0 grows ∙ shown.rest ∙ ap (λ l. sources [] [] (l ++ left F formed outside N s0 after)) none)
