-- A text has one net.
use Rattle.std.proofs.Common.{◌≡◌, ℕ, List, Some, None, sym, ◌∙◌, ap, subst}
use Rattle.lola_order.specs.Graph.{Graph, IsOrder}
use Rattle.lola_net.specs.declared.net.Net.{Net}
use Rattle.lola_lower.specs.Steps.{net_of}
use Rattle.lola_tree.specs.Tree.{SourceTree}
use Rattle.lola_flat.specs.Tree.{FlatTree}
use Rattle.lola_unfold.specs.Flat.{flat_graph, flat_design, IsElaborated}
use Rattle.lola_source.specs.Answer.{HasOneAnswer}
use Rattle.lola_compile.specs.Compiled.{HasNet, HasOneNet}

-- the law of orders
abbrev pub OneOrderLaw : Type 0
OneOrderLaw = (g : Graph) (xs ys : List ℕ) → IsOrder g xs → IsOrder g ys → xs ≡ ys

-- a source has one flat design
pub one_flat : OneOrderLaw → (S : SourceTree) (F G : FlatTree) → IsElaborated S F → IsElaborated S G → F ≡ G
one_flat one S F G first second =
    let graphs : flat_graph G.signals ≡ flat_graph F.signals = ap (λ (H : FlatTree). flat_graph H.signals) second.is ∙ sym (ap (λ (H : FlatTree). flat_graph H.signals) first.is) in
    let orders : F.order ≡ G.order = one (flat_graph F.signals) F.order G.order first.order (subst (λ (g : Graph). IsOrder g G.order) graphs second.order) in
    first.is ∙ ap (flat_design S) orders ∙ sym second.is

module _ (one : OneOrderLaw) (bytes : List ℕ) (answer : HasOneAnswer bytes) where
  same_flat : (a b : Net) (first : HasNet bytes a) (second : HasNet bytes b) → first.F ≡ second.F
  same_flat a b first second =
      let same = answer.one_source first.S second.S first.accepts second.accepts in
      one_flat one second.S first.F second.F (subst (λ (S : SourceTree). IsElaborated S first.F) same first.elaborated) second.elaborated

  pub one_net : HasOneNet bytes
  one_net = record {
    same = λ a b first second.
        let some : Some a ≡ Some b = sym first.lowered ∙ ap net_of (same_flat a b first second) ∙ second.lowered in
        cc;
    never_full = λ a first full.
        let same = answer.one_source first.S full.S first.accepts full.accepts in
        let flat : first.F ≡ full.F = one_flat one full.S first.F full.F (subst (λ (S : SourceTree). IsElaborated S first.F) same first.elaborated) full.elaborated in
        let none : Some a ≡ None = sym first.lowered ∙ ap net_of flat ∙ full.none in
        cc;
    never_refused = λ a r first is. answer.never_both first.S r first.accepts is;
    never_full_refused = λ r full is. answer.never_both full.S r full.accepts is;
  }
