-- The steps of an equation and of next values put gates behind the nodes, and nothing else.
use Rattle.std.proofs.Common.{◌≡◌, ℕ, zero, suc, ◌+◌, ◌≤◌, Bool, true, List, [], ◌∷◌, ◌++◌, length, Some, refl, sym, ◌∙◌, ap, subst, arith}
use Rattle.lola_net.specs.declared.node.Node.{Node}
use Rattle.lola_net.specs.Equations.{is_ordered}
use Rattle.std.specs.Prelude.{nat_lt}
use Rattle.lola_net.specs.declared.node.Node.TheVariants.{Gate}
use Rattle.lola_gate.specs.Gates.{gates, gates_calls, gates_meaning}
use Rattle.lola_gate.specs.Law.{gates_law}
use Rattle.lola_flat.specs.Tree.{ExprTree, FlatTree}
use Rattle.lola_flat.specs.Value.{Env, env, mapped, Fits}
use Rattle.lola_flat.specs.Formed.{IsFormed}
use Rattle.lola_eval.specs.Steps.{equation_step, state_step}
use Rattle.lola_eval.specs.Means.{EnvKnown, AreSignalBits}
use Rattle.lola_eval.proofs.Means.{lower_means}
use Rattle.lola_eval.proofs.StepsMean.{state_means}
use Rattle.lola_lower.proofs.Constants.{constants, constants_law, still_none}
use Rattle.lola_lower.proofs.Grown.{is_new, meaning_with, law_with, env_with, fact_kept, Grown, grown_none, since, since_law, since_known, grown_since}
use Rattle.lola_lower.proofs.Steps.{constant_all, stays_ordered}

pub equation_grows : (E : Env (List ℕ)) (f : ExprTree) (d : List Node) (made : List Node × List ℕ) → Fits (mapped length E) f → EnvKnown gates_meaning d E → is_ordered d ≡ true →
    equation_step gates_calls E (Some f) d ≡ Some made → Grown d made.0
equation_grows E f [] made fits known order step =
    subst (Grown []) (sym (still_none made.0 (lower_means gates_calls constants constants_law E f [] made fits (constant_all E known) step).stays)) (grown_none [])
equation_grows E f (x ∷ d) made fits known order step =
    grown_since (x ∷ d) made.0 (omega arith) order (lower_means gates_calls (since (x ∷ d)) (since_law (x ∷ d)) E f (x ∷ d) made fits (since_known (x ∷ d) E known) step).stays

pub state_grows : (F : FlatTree) → IsFormed F → (signals : List (List (List ℕ))) → AreSignalBits F signals → (d : List Node) (made : List Node × List (List (List ℕ))) → EnvKnown gates_meaning d (env signals []) → is_ordered d ≡ true →
    state_step gates_calls (env signals []) F.signals 0 d ≡ Some made → Grown d made.0
state_grows F formed signals bits [] made known order step =
    subst (Grown []) (sym (still_none made.0 (state_means gates_calls constants constants_law F formed signals [] bits (constant_all (env signals []) known) made step).stays)) (grown_none [])
state_grows F formed signals bits (x ∷ d) made known order step =
    grown_since (x ∷ d) made.0 (omega arith) order (state_means gates_calls (since (x ∷ d)) (since_law (x ∷ d)) F formed signals (x ∷ d) bits (since_known (x ∷ d) (env signals []) known) made step).stays

-- and so do they keep the order of the nodes
pub state_ordered : (F : FlatTree) → IsFormed F → (signals : List (List (List ℕ))) → AreSignalBits F signals → (d : List Node) (made : List Node × List (List (List ℕ))) → EnvKnown gates_meaning d (env signals []) → is_ordered d ≡ true →
    state_step gates_calls (env signals []) F.signals 0 d ≡ Some made → is_ordered made.0 ≡ true
state_ordered F formed signals bits [] made known order step =
    ap is_ordered (still_none made.0 (state_means gates_calls constants constants_law F formed signals [] bits (constant_all (env signals []) known) made step).stays)
state_ordered F formed signals bits (x ∷ d) made known order step =
    stays_ordered (x ∷ d) made.0 (omega arith) order (state_means gates_calls gates_meaning gates_law F formed signals (x ∷ d) bits known made step).stays

-- a fact that gates keep is kept by both
module _ (fact : List Node → Bool) (more : (d : List Node) (a b : ℕ) → nat_lt (length (gates d)) 1048576 ≡ true → is_new d a b ≡ true → fact d ≡ true → fact (d ++ Gate a b ∷ []) ≡ true) where
  pub equation_keeps : (E : Env (List ℕ)) (f : ExprTree) (d : List Node) (made : List Node × List ℕ) → Fits (mapped length E) f → EnvKnown gates_meaning d E → is_ordered d ≡ true →
      equation_step gates_calls E (Some f) d ≡ Some made → fact d ≡ true → fact made.0 ≡ true
  equation_keeps E f [] made fits known order step holds =
      ap fact (still_none made.0 (lower_means gates_calls constants constants_law E f [] made fits (constant_all E known) step).stays) ∙ holds
  equation_keeps E f (x ∷ d) made fits known order step holds =
      fact_kept fact more (x ∷ d) made.0 (omega arith) order holds (lower_means gates_calls (meaning_with fact more) (law_with fact more) E f (x ∷ d) made fits (env_with fact more (x ∷ d) E known holds) step).stays

  pub state_keeps : (F : FlatTree) → IsFormed F → (signals : List (List (List ℕ))) → AreSignalBits F signals → (d : List Node) (made : List Node × List (List (List ℕ))) → EnvKnown gates_meaning d (env signals []) → is_ordered d ≡ true →
      state_step gates_calls (env signals []) F.signals 0 d ≡ Some made → fact d ≡ true → fact made.0 ≡ true
  state_keeps F formed signals bits [] made known order step holds =
      ap fact (still_none made.0 (state_means gates_calls constants constants_law F formed signals [] bits (constant_all (env signals []) known) made step).stays) ∙ holds
  state_keeps F formed signals bits (x ∷ d) made known order step holds =
      fact_kept fact more (x ∷ d) made.0 (omega arith) order holds (state_means gates_calls (meaning_with fact more) (law_with fact more) F formed signals (x ∷ d) bits (env_with fact more (x ∷ d) (env signals []) known holds) made step).stays
