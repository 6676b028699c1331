use Rattle.std.proofs.Common.{subst}
use Rattle.lola_order.specs.Graph as graph
use Rattle.lola_unfold.proofs.Graph.{same_graph}
use Rattle.lola_unfold.proofs.laws.flat_uses.Goals as goal

pub returns-clause-graph : goal.returns-clause-graph
returns-clause-graph c = λ S is. same_graph S (λ x. c.one_equation.ensures S x is.assigned) (λ x. c.one_path.ensures S x is.names)

pub returns-clause-names : goal.returns-clause-names
returns-clause-names c = λ S numbers is l.
    c.loops.ensures.names S numbers is (subst (λ g. graph.IsLoop g numbers) (same_graph S (λ x. c.one_equation.ensures S x is.assigned) (λ x. c.one_path.ensures S x is.names)) l)
