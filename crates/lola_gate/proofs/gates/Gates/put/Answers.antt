use Rattle.std.proofs.Common.{rules, ◌≡◌, ◌<◌, ◌^◌, ◌++◌, [], ◌∷◌, true, suc, length, sym, ap, subst, ◌∙◌}
use Rattle.lola_net.specs.Equations.{uses_smaller}
use Rattle.lola_gate.specs.Held.{node_of}
use Rattle.lola_gate.proofs.Holds.{tied_other, nodes_other, length_nodes}
use Rattle.lola_gate.proofs.gates.Gates.put.Goals as goal

pub invariant_of-self-in-Ok-push : goal.invariant_of-self-in-Ok-push
invariant_of-self-in-Ok-push c =
    let held = c.self.inside.held.items in
    let few : suc (length held) < 2 ^ 31 = search rules in
    rw (c.in-Ok-push.ensures.items, c.in-Ok.ensures.items)
    (tied_other held c.self.inside.others.items c.self.inside.map.entries c.args.other c.self.invariant few
    (subst (λ d. uses_smaller (suc (length d)) (node_of c.args.other) ≡ true) (sym c.self.view_is) c.requires))

pub returns : goal.returns
returns c =
    let held = c.self.inside.held.items in
    let few : suc (length held) < 2 ^ 31 = search rules in
    let long : length held ≡ length c.args.self.now = sym (length_nodes c.self.inside.others.items held) ∙ ap length c.self.view_is in
    rw (c.in-Ok-push.ensures.items, c.in-Ok.ensures.items) (
      nodes_other c.self.inside.others.items held c.args.other c.self.invariant.counted ∙ ap (λ d. d ++ node_of c.args.other ∷ []) c.self.view_is,
      (let h = long in let g = few in search rules),
    )
