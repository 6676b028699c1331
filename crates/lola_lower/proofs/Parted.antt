-- The parts of a net that was made: the nodes and vectors of the signals, and those of the next values.
use Rattle.std.proofs.Common.{◌≡◌, ◌⊎◌, ℕ, List, [], ◌∷◌, ◌++◌, Option, Some, None, inl, inr, refl, sym, ◌∙◌, ap, subst}
use Rattle.lola_bits.proofs.Options.{some_same}
use Rattle.lola_alg.proofs.BitMeans.{into_made}
use Rattle.lola_net.specs.declared.node.Node.{Node}
use Rattle.lola_net.specs.declared.net.Net.{Net}
use Rattle.lola_gate.specs.Gates.{gates_calls}
use Rattle.lola_flat.specs.declared.design.SigKind.TheVariants.{Pad, Wire}
use Rattle.lola_flat.specs.Tree.{SignalTree, FlatTree}
use Rattle.lola_flat.specs.Value.{env}
use Rattle.lola_flat.specs.Signals.{IsSignal}
use Rattle.lola_flat.specs.Formed.{IsFormed}
use Rattle.lola_eval.specs.Steps.{state_step}
use Rattle.lola_lower.specs.Sources.{source_nodes, given_literals}
use Rattle.lola_lower.specs.Steps.{order_step, net_with, signals_made, all_made, made_net, net_of}
use Rattle.lola_lower.specs.Ready.{IsReady}
use Rattle.lola_lower.proofs.Along.{Made, all_steps}
use Rattle.lola_lower.proofs.Given.{given_ready}
use Rattle.lola_lower.proofs.Growth.{state_grows}
use Rattle.lola_lower.proofs.NodeNames.{HasKinds, source_kinds, grown_kinds, wire_kinds, pad_kinds}
use Rattle.lola_lower.proofs.PadGrown.{wire_grows, pad_grows, pad_long}
use Rattle.lola_lower.proofs.Whole.{all_ready}

pub record IsParted (F : FlatTree) (net : Net) : Type 0 where
  pub nodes : List Node
  pub signals : List (List (List ℕ))
  pub order : signals_made F ≡ Some (nodes, signals)
  pub all : List Node
  pub next : List (List (List ℕ))
  pub state : state_step gates_calls (env signals []) F.signals 0 nodes ≡ Some (all, next)
  pub is : net_with F all signals next ≡ net

pub parted : (F : FlatTree) (net : Net) → net_of F ≡ Some net → IsParted F net
parted F net e =
    let m = its (all_made F) e in
    let i = into_made (signals_made F) _ m.0 m.1.0 in
    let j = into_made (state_step gates_calls (env i.0.1 []) F.signals 0 i.0.0) _ m.0 i.1.1 in
    record {
      nodes = i.0.0;
      signals = i.0.1;
      order = i.1.0;
      all = j.0.0;
      next = j.0.1;
      state = j.1.0;
      is = ap (λ (p : List Node × Net). p.1) (some_same (j.0.0, net_with F j.0.0 i.0.1 j.0.1) m.0 j.1.1) ∙ m.1.1;
    }
  where
    its : (o : Option (List Node × Net)) → made_net o ≡ Some net → (m : List Node × Net) × ((o ≡ Some m) × (m.1 ≡ net))
    its None e = absurd (cc)
    its (Some m) e = (m, (refl, some_same m.1 net e))

module _ (F : FlatTree) (formed : IsFormed F) (net : Net) (p : IsParted F net) where
  kinds_more : (before after : List ℕ) (n : ℕ) (split : F.order ≡ before ++ n ∷ after) (d : List Node) (table : List (List (List ℕ))) (ready : IsReady F before d table) (s : SignalTree) (is : IsSignal F n s) (made : List Node × List ℕ) →
      Made F formed before after n split d table ready s is made → HasKinds F before d → HasKinds F (before ++ n ∷ []) made.0
  kinds_more before after n split d table ready s is made (inl m) k = wire_kinds F before n s is m.0 d made.0 (wire_grows F formed before after n split d table ready s is m.0 made m.1) k
  kinds_more before after n split d table ready s is made (inr m) k =
      subst (λ (x : List Node × List ℕ). HasKinds F (before ++ n ∷ []) x.0) (sym m.1.all)
      (pad_kinds F before n s is m.0 d m.1.second.0 (pad_grows F formed before after n split d table ready s is made m.1) _ m.1.first.1 (pad_long F formed before after n split d table ready s is made m.1) k)

  through : IsReady F F.order p.nodes p.signals × HasKinds F F.order p.nodes
  through =
      all_steps F formed (λ before left d table. HasKinds F before d) kinds_more [] F.order refl (source_nodes F) (given_literals F) (given_ready F) (source_kinds F) (p.nodes, p.signals) p.order

  pub ready_behind : IsReady F F.order p.nodes p.signals
  ready_behind = through.0

  pub kinds_behind : HasKinds F F.order p.all
  kinds_behind =
      grown_kinds F F.order p.nodes p.all
      (state_grows F formed p.signals (all_ready F formed p.nodes p.signals through.0) p.nodes (p.all, p.next) through.0.known through.0.ordered p.state) through.1
