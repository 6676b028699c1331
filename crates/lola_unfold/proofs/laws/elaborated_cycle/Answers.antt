use Rattle.std.proofs.Common.{◌≡◌, ap, ◌∙◌, map, subst}
use Rattle.lola_tree.specs.Tree.{SourceTree}
use Rattle.lola_tree.specs.design.Signals.{signals}
use Rattle.lola_order.specs.Graph.{Graph, IsOrder}
use Rattle.lola_design.specs.Graph.{design_graph}
use Rattle.lola_flat.specs.Tree.{FlatTree}
use Rattle.lola_unfold.specs.Flat.{flat_signal, flat_graph, IsElaborated}
use Rattle.lola_unfold.proofs.laws.elaborated_cycle.Goals as goal

-- the order is one of the design's graph
ordered : (S : SourceTree) (F : FlatTree) → flat_graph (map (flat_signal S) (signals S)) ≡ design_graph S → IsElaborated S F → IsOrder (design_graph S) F.order
ordered S F same is = subst (λ (g : Graph). IsOrder g F.order) (ap (λ (G : FlatTree). flat_graph G.signals) is.is ∙ same) is.order

pub returns-clause-cycle : goal.returns-clause-cycle
returns-clause-cycle c = λ S F s inp regular is state given.
    c.one_cycle.ensures S F.order s inp regular (ordered S F (c.flat_uses.ensures.graph S regular) is) state given

pub returns-clause-chain : goal.returns-clause-chain
returns-clause-chain c = λ S F regular is loop.
    c.one_order.ensures.acyclic (design_graph S) F.order (ordered S F (c.flat_uses.ensures.graph S regular) is) ((c.loops.ensures.chain S regular).1 loop)
