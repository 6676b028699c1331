-- A flat design of a source, by its order.
use Rattle.std.proofs.Common.{◌≡◌, map, ap, subst, sym}
use Rattle.lola_tree.specs.Tree.{SourceTree}
use Rattle.lola_tree.specs.design.Signals.{signals}
use Rattle.lola_order.specs.Graph.{Graph, IsOrder}
use Rattle.lola_design.specs.Graph.{design_graph}
use Rattle.lola_flat.specs.Tree.{FlatTree}
use Rattle.lola_unfold.specs.Flat.{flat_signal, flat_graph, flat_design, IsElaborated}

-- its order is one of its signals
pub flat_ordered : (S : SourceTree) (F : FlatTree) → IsElaborated S F → IsOrder (flat_graph (map (flat_signal S) (signals S))) F.order
flat_ordered S F is = subst (λ (g : Graph). IsOrder g F.order) (ap (λ (G : FlatTree). flat_graph G.signals) is.is) is.order

-- and of the equations on paths
pub ordered : (S : SourceTree) (F : FlatTree) → flat_graph (map (flat_signal S) (signals S)) ≡ design_graph S → IsElaborated S F → IsOrder (design_graph S) F.order
ordered S F same is = subst (λ (g : Graph). IsOrder g F.order) same (flat_ordered S F is)

-- what holds of the stated design holds of it, and back
pub stated : (S : SourceTree) (F : FlatTree) (P : FlatTree → Type 0) → IsElaborated S F → P (flat_design S F.order) → P F
stated S F P is holds = subst P (sym is.is) holds

pub to_stated : (S : SourceTree) (F : FlatTree) (P : FlatTree → Type 0) → IsElaborated S F → P F → P (flat_design S F.order)
to_stated S F P is holds = subst P is.is holds
