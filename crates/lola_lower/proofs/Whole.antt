-- The whole lowering: its parts one after another.
use Rattle.std.proofs.Common.{◌≡◌, ◌≢◌, ◌⊎◌, ℕ, suc, ◌+◌, List, [], ◌∷◌, ◌++◌, length, map, get_or, Option, Some, None, Result, Ok, Err, inl, inr, refl, sym, ◌∙◌, ap, ap₂, subst, arith}
use Rattle.lola_alg.specs.declared.algebra.AlgError.{AlgError}
use Rattle.lola_alg.specs.declared.algebra.AlgError.TheVariants.{Full, Memory}
use Rattle.lola_alg.specs.Steps.{into}
use Rattle.lola_net.specs.declared.node.Node.{Node}
use Rattle.lola_net.specs.declared.net.Net.{Net}
use Rattle.lola_gate.specs.Gates.{gates_calls}
use Rattle.lola_flat.specs.declared.design.SigKind.{SigKind}
use Rattle.lola_flat.specs.declared.design.SigKind.TheVariants.{Input, Pad, Wire, Register}
use Rattle.lola_flat.specs.Tree.{SignalTree, FlatTree}
use Rattle.lola_flat.specs.Value.{env}
use Rattle.lola_flat.specs.Signals.{IsSignal, IsClock}
use Rattle.lola_flat.specs.Formed.{IsFormed}
use Rattle.lola_bits.specs.Lists.{IsIn}
use Rattle.lola_lower.specs.Sources.{all_inputs, all_latches, source_nodes, given_from, given_literals}
use Rattle.lola_lower.specs.Steps.{order_step, net_with, signals_made, all_made, made_net, net_of, Lowers}
use Rattle.lola_lower.specs.Ready.{IsReady}
use Rattle.lola_lower.proofs.Given.{given_ready}
use Rattle.lola_eval.specs.Steps.{state_step}
use Rattle.lola_eval.specs.Means.{AreSignalBits}

-- the table has all signals when the order is through
pub all_ready : (F : FlatTree) → IsFormed F → (d : List Node) (table : List (List (List ℕ))) → IsReady F F.order d table → AreSignalBits F table
all_ready F formed d table ready = record { long = ready.long; each = λ n s is clock. ready.wide n s is clock (by n s is s.kind refl) }
  where
    by : (n : ℕ) (s : SignalTree) → IsSignal F n s → (kind : SigKind) → s.kind ≡ kind → (s.kind ≡ Input) ⊎ ((s.kind ≡ Register) ⊎ IsIn n F.order)
    by n s is Input e = inl e
    by n s is Register e = inr (inl e)
    by n s is Wire e = inr (inr (formed.order.wires n (s, (is, e))))
    by n s is Pad e = inr (inr (formed.order.pads n (s, (is, e))))

-- an error that is no want of a place
pub not_full : (F : FlatTree) (error : AlgError) → ◌≢◌ {A = Result Net AlgError} (Err error) (Err Full) → Lowers F (Err error)
not_full F Full n = absurd (n refl)
not_full F Memory n = tt

-- the nodes and literals before the signals, as they are made
module _ (F : FlatTree) (first : ℕ) (start : List Node) (given : List (List (List ℕ))) (count : first ≡ length (all_inputs F) + 1) (nodes : start ≡ all_inputs F ++ all_latches F) (table : given ≡ given_from F 1 first F.signals) where
  given_is : given ≡ given_literals F
  given_is = table ∙ ap (λ n. given_from F 1 n F.signals) (let e : first ≡ suc (length (all_inputs F)) = omega arith in e)

  pub start_ready : IsReady F [] start given
  start_ready = subst (λ d. IsReady F [] d given) (sym nodes) (subst (IsReady F [] (source_nodes F)) (sym given_is) (given_ready F))

  order_is : order_step F (env given []) F.order start ≡ signals_made F
  order_is = ap₂ (λ t d. order_step F (env t []) F.order d) given_is nodes

  pub full_order : order_step F (env given []) F.order start ≡ None → net_of F ≡ None
  full_order none = ap (λ r. made_net (into r (λ signals d. into (state_step gates_calls (env signals []) F.signals 0 d) (λ next e. Some (e, net_with F e signals next))))) (sym order_is ∙ none)

  module _ (d : List Node) (signals : List (List (List ℕ))) (order : order_step F (env given []) F.order start ≡ Some (d, signals)) where
    behind : all_made F ≡ into (state_step gates_calls (env signals []) F.signals 0 d) (λ next e. Some (e, net_with F e signals next))
    behind = ap (λ r. into r (λ signals d. into (state_step gates_calls (env signals []) F.signals 0 d) (λ next e. Some (e, net_with F e signals next)))) (sym order_is ∙ order)

    pub full_state : state_step gates_calls (env signals []) F.signals 0 d ≡ None → net_of F ≡ None
    full_state none = ap made_net (behind ∙ ap (λ r. into r (λ next e. Some (e, net_with F e signals next))) none)

    pub all_lowered : (e : List Node) (next : List (List (List ℕ))) → state_step gates_calls (env signals []) F.signals 0 d ≡ Some (e, next) → net_of F ≡ Some (net_with F e signals next)
    all_lowered e next state = ap made_net (behind ∙ ap (λ r. into r (λ next e. Some (e, net_with F e signals next))) state)
