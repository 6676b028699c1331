use Rattle.std.proofs.Common.{rules, ◌≡◌, ◌<◌, ◌^◌, true, length, sym, ap, subst, ◌∙◌, List}
use Rattle.lola_net.specs.declared.node.Node.{Node}
use Rattle.lola_net.specs.Equations.{is_ordered}
use Rattle.lola_gate.specs.Gates.{with_next}
use Rattle.lola_gate.proofs.Holds.{length_nodes}
use Rattle.lola_gate.proofs.Formed.{formed_net}
use Rattle.lola_gate.proofs.gates.Gates.into_net.Goals as goal

pub returns-in-Ok-clause-formed : goal.returns-in-Ok-clause-formed
returns-in-Ok-clause-formed c = λ next outputs.
    let d = c.args.self in
    let long = length_nodes c.self.inside.others.items c.self.inside.held.items in
    let are : c.of.result ≡ with_next c.args.next d = search rules in
    let few : length d < 2 ^ 31 = subst (λ n. n < 2 ^ 31) (sym long ∙ ap length c.self.view_is) c.self.invariant.few in
    formed_net (record { name = c.args.name; clock = c.args.clock; ports = c.args.ports; nodes = c.of.result; outputs = c.args.outputs }) d c.args.next are
    (subst (λ (xs : List Node). is_ordered xs ≡ true) c.self.view_is c.self.invariant.ordered) few next outputs
