use Rattle.lola_design.specs.Graph.{design_graph}
use Rattle.lola_design.proofs.OneCycle.{one_cycle}
use Rattle.lola_design.proofs.laws.one_cycle.Goals as goal

pub returns : goal.returns
returns c = λ S order s inp is ordered state given.
    one_cycle S is order ordered s inp
    (λ f base hangs. c.one_solution.ensures.exists (design_graph S) f order base hangs ordered)
    (λ f base u w hangs p q i. c.one_solution.ensures.same (design_graph S) f order base u w hangs ordered p q i)
    state given
