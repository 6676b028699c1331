-- What a signal makes: behind the nodes gates alone, and behind these the pads of a pad.
use Rattle.std.proofs.Common.{◌≡◌, ◌⊎◌, ℕ, Bool, true, List, [], ◌∷◌, ◌++◌, length, Option, Some, inl, inr, refl, sym, ◌∙◌, subst}
use Rattle.std.specs.Prelude.{nat_lt}
use Rattle.lola_net.specs.declared.node.Node.{Node}
use Rattle.lola_net.specs.declared.node.Node.TheVariants.{Gate}
use Rattle.lola_gate.specs.Gates.{gates, gates_calls, gates_meaning}
use Rattle.lola_flat.specs.declared.design.SigKind.TheVariants.{Wire}
use Rattle.lola_flat.specs.Tree.{ExprTree, SignalTree, FlatTree}
use Rattle.lola_flat.specs.Value.{env}
use Rattle.lola_flat.specs.Signals.{IsSignal}
use Rattle.lola_flat.specs.Formed.{IsFormed}
use Rattle.lola_flat.proofs.OneCycle.{has_equation}
use Rattle.lola_eval.specs.Steps.{equation_step}
use Rattle.lola_eval.proofs.Kept.{env_known}
use Rattle.lola_lower.specs.Ready.{IsReady}
use Rattle.lola_lower.proofs.Grown.{is_new, Grown, grown_on}
use Rattle.lola_lower.proofs.Growth.{equation_grows, equation_keeps}
use Rattle.lola_lower.proofs.Steps.{plain_inside, suits, part_fits, part_width, PadMade}

module _ (F : FlatTree) (formed : IsFormed F) (before after : List ℕ) (n : ℕ) (split : F.order ≡ before ++ n ∷ after) (d : List Node) (table : List (List (List ℕ))) (ready : IsReady F before d table) (s : SignalTree) (is : IsSignal F n s) where
  pub wire_grows : s.kind ≡ Wire → (made : List Node × List ℕ) → equation_step gates_calls (env table []) s.equation d ≡ Some made → Grown d made.0
  wire_grows w made step =
      let found = has_equation s.kind s.equation (inl w) (formed.signals n s is).equation in
      let inside = plain_inside F formed before after n split d table ready s is w found.0 found.1 in
      let fits = part_fits F formed before after n split d table ready s is found.0 found.1 found.0 (λ r read. read) inside (suits F formed before after n split d table ready s is found.0 found.1).fits in
      equation_grows (env table []) found.0 d made fits ready.known ready.ordered (subst (λ (o : Option ExprTree). equation_step gates_calls (env table []) o d ≡ Some made) found.1 step)

  module _ (made : List Node × List ℕ) (q : PadMade F formed before after n split d table ready s is made) where
    pub value_grows : Grown d q.first.0
    value_grows = equation_grows (env table []) q.value d q.first (part_fits F formed before after n split d table ready s is q.parts.equation q.parts.equation_is q.value q.parts.value_part q.parts.value_inside q.parts.value_fits) ready.known ready.ordered q.value_step

    pub release_grows : Grown q.first.0 q.second.0
    release_grows = equation_grows (env table []) q.release q.first.0 q.second (part_fits F formed before after n split d table ready s is q.parts.equation q.parts.equation_is q.release q.parts.release_part q.parts.release_inside q.parts.release_fits)
        (env_known gates_meaning d q.first.0 (env table []) q.value_means.stays ready.known) q.first_ordered q.release_step

    pub pad_grows : Grown d q.second.0
    pad_grows = grown_on d q.first.0 q.second.0 value_grows release_grows

    pub pad_long : length q.first.1 ≡ s.width
    pad_long = q.value_means.long ∙ part_width F formed before after n split d table ready s is q.parts.equation q.parts.equation_is q.value q.parts.value_part q.parts.value_inside ∙ q.parts.value_width

    pub release_long : length q.second.1 ≡ 1
    release_long = q.release_means.long ∙ part_width F formed before after n split d table ready s is q.parts.equation q.parts.equation_is q.release q.parts.release_part q.parts.release_inside ∙ q.parts.release_width

-- a fact that gates keep is kept by what a signal makes, before its pads
module _ (fact : List Node → Bool) (more : (d : List Node) (a b : ℕ) → nat_lt (length (gates d)) 1048576 ≡ true → is_new d a b ≡ true → fact d ≡ true → fact (d ++ Gate a b ∷ []) ≡ true)
    (F : FlatTree) (formed : IsFormed F) (before after : List ℕ) (n : ℕ) (split : F.order ≡ before ++ n ∷ after) (d : List Node) (table : List (List (List ℕ))) (ready : IsReady F before d table) (s : SignalTree) (is : IsSignal F n s) where
  pub wire_keeps : s.kind ≡ Wire → (made : List Node × List ℕ) → equation_step gates_calls (env table []) s.equation d ≡ Some made → fact d ≡ true → fact made.0 ≡ true
  wire_keeps w made step =
      let found = has_equation s.kind s.equation (inl w) (formed.signals n s is).equation in
      let inside = plain_inside F formed before after n split d table ready s is w found.0 found.1 in
      let fits = part_fits F formed before after n split d table ready s is found.0 found.1 found.0 (λ r read. read) inside (suits F formed before after n split d table ready s is found.0 found.1).fits in
      equation_keeps fact more (env table []) found.0 d made fits ready.known ready.ordered (subst (λ (o : Option ExprTree). equation_step gates_calls (env table []) o d ≡ Some made) found.1 step)

  pub pad_keeps : (made : List Node × List ℕ) (q : PadMade F formed before after n split d table ready s is made) → fact d ≡ true → fact q.second.0 ≡ true
  pad_keeps made q holds =
      equation_keeps fact more (env table []) q.release q.first.0 q.second (part_fits F formed before after n split d table ready s is q.parts.equation q.parts.equation_is q.release q.parts.release_part q.parts.release_inside q.parts.release_fits)
      (env_known gates_meaning d q.first.0 (env table []) q.value_means.stays ready.known) q.first_ordered q.release_step
      (equation_keeps fact more (env table []) q.value d q.first (part_fits F formed before after n split d table ready s is q.parts.equation q.parts.equation_is q.value q.parts.value_part q.parts.value_inside q.parts.value_fits) ready.known ready.ordered q.value_step holds)
