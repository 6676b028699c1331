use Rattle.std.proofs.Common.{rules, length, sym, ap, ◌∙◌}
use Rattle.lola_gate.proofs.Holds.{length_nodes}
use Rattle.lola_gate.proofs.gates.Gates.node_count.Goals as goal

pub returns-clause-count : goal.returns-clause-count
returns-clause-count c =
    let long = sym (length_nodes c.self.inside.others.items c.self.inside.held.items) ∙ ap length c.self.view_is in
    let few = c.self.invariant.few in
    search rules
