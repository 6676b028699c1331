use Rattle.std.proofs.Common.{rules, ◌≡◌, true, length, sym, ap, subst, ◌∙◌}
use Rattle.lola_net.specs.Equations.{is_ordered}
use Rattle.lola_gate.proofs.Holds.{length_nodes, known_in, known_out}
use Rattle.lola_gate.proofs.gates.Gates.has.Goals as goal

pub returns-then-literal-len : goal.returns-then-literal-len
returns-then-literal-len c =
    let long = sym (length_nodes c.self.inside.others.items c.self.inside.held.items) ∙ ap length c.self.view_is in
    known_in c.args.self.now c.args.literal (subst (λ d. is_ordered d ≡ true) c.self.view_is c.self.invariant.ordered) (search rules)

pub returns-else-literal-len : goal.returns-else-literal-len
returns-else-literal-len c =
    let long = sym (length_nodes c.self.inside.others.items c.self.inside.held.items) ∙ ap length c.self.view_is in
    known_out c.args.self.now c.args.literal (search rules)
