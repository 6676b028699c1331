-- A flat design has one cycle for what it is given, and one state behind it.
use Rattle.std.specs.Prelude.{◌≡◌, ℕ, Bool, false, List, [], map, get_or, Some}
use Rattle.lola_alg.specs.Means.{number_at}
use Rattle.lola_alg.specs.Plain.{plain_calls, plain_meaning}
use Rattle.lola_flat.specs.declared.design.SigKind.TheVariants.{Register}
use Rattle.lola_flat.specs.Tree.{SignalTree, FlatTree}
use Rattle.lola_flat.specs.Value.{Env, env}
use Rattle.lola_flat.specs.Signals.{IsSignal, IsClock}
use Rattle.lola_flat.specs.Cycle.{HasValues, IsCycle, IsNext}
use Rattle.lola_eval.specs.Steps.{signals_step, state_step}
use Rattle.lola_eval.specs.Means.{IsWideAs, AreSignalBits}

-- there is one, each signal but the clock has a number for each element, below 2 to its width, and so has each register
-- behind it
pub record HasOneCycle (F : FlatTree) (given : List (List ℕ)) (outside : List ℕ) : Type 0 where
  pub values : List (List ℕ)
  pub cycle : IsCycle F given outside values
  pub only : (N : List (List ℕ)) → IsCycle F given outside N → N ≡ values
  pub fit : (n : ℕ) (s : SignalTree) → IsSignal F n s → (IsClock F s → ⊥) → HasValues s (get_or values n [])
  pub behind : List (List ℕ)
  pub next : IsNext F values behind
  pub only_next : (after : List (List ℕ)) → IsNext F values after → after ≡ behind
  pub state : (n : ℕ) (s : SignalTree) → IsSignal F n s → s.kind ≡ Register → HasValues s (get_or behind n [])

-- the numbers of bits that are their own values
abbrev pub plain_numbers : List (List (List Bool)) → List (List ℕ)
plain_numbers table = map (map (number_at plain_meaning tt (λ n. false))) table

-- over bool, the signals in order are the cycle, and the next values of registers the state behind it
pub record HasPlainCycle (F : FlatTree) (E : Env (List Bool)) : Type 0 where
  pub table : List (List (List Bool))
  pub made : signals_step plain_calls F E F.order tt ≡ Some (tt, table)
  pub wide : AreSignalBits F table
  pub cycle : IsCycle F (plain_numbers E.signals) (map (number_at plain_meaning tt (λ n. false)) E.outside) (plain_numbers table)
  pub behind : List (List (List Bool))
  pub state_made : state_step plain_calls (env table []) F.signals 0 tt ≡ Some (tt, behind)
  pub state_wide : (n : ℕ) (s : SignalTree) → IsSignal F n s → s.kind ≡ Register → IsWideAs s (get_or behind n [])
  pub next : IsNext F (plain_numbers table) (plain_numbers behind)
