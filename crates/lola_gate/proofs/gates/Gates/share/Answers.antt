use Rattle.std.proofs.Common.{rules, ◌≡◌, ◌<◌, ◌+◌, ◌*◌, ◌++◌, ℕ, true, suc, [], ◌∷◌, List, length, Some, None, sym, ap, ap₂, subst, ◌^◌, ◌∙◌}
use Rattle.std.specs.Map.{lookup}
use Rattle.lola_net.specs.declared.node.Node.{Node}
use Rattle.lola_net.specs.declared.node.Node.TheVariants.{Gate}
use Rattle.lola_gate.specs.Gates.{gates, is_pair, found, knows_literal}
use Rattle.lola_gate.specs.Held.{nodes_of}
use Rattle.indexmap.proofs.CallerLemmas.{insert_entry-new}
use Rattle.lola_gate.proofs.Holds.{found_small, tied_gate, length_nodes, nodes_gate, shared_new}
use Rattle.lola_gate.proofs.gates.Gates.share.Goals as goal

pub overflow_mul-result : goal.overflow_mul-result
overflow_mul-result c = let h = found_small _ c.in-Some.n.now c.self.invariant c.in-Some.ensures.value in search rules

pub invariant_of-self : goal.invariant_of-self
invariant_of-self c =
    let held = c.self.inside.held.items in
    let few : suc (length held) < 2 ^ 31 = search rules in
    rw c.in-Ok.ensures.items (tied_gate held c.self.inside.others.items c.self.inside.map.entries c.insert.new.self.entries c.args.a c.args.b c.self.invariant few c.requires.greater
    (subst (λ d. knows_literal d c.args.a ≡ true) (sym c.self.view_is) c.requires.a)
    (subst (λ d. knows_literal d c.args.b ≡ true) (sym c.self.view_is) c.requires.b)
    (c.in-Ok-insert.ensures.entries ∙ insert_entry-new _ c.self.inside.map _ _ (sym c.in_default.ensures.value) ∙ ap (λ m. c.self.inside.map.entries ++ ((c.args.a, c.args.b), m) ∷ []) (let h = few in search rules)))

pub returns-in-Ok-insert : goal.returns-in-Ok-insert
returns-in-Ok-insert c =
    let a = c.args.a in
    let b = c.args.b in
    let d = c.args.self.now in
    let held = c.self.inside.held.items in
    let others = c.self.inside.others.items in
    let entries = c.self.inside.map.entries in
    let are : entries ≡ gates d = c.self.invariant.entries_are ∙ ap gates c.self.view_is in
    let none : found a b d ≡ None = ap (lookup (is_pair (a, b))) (sym are) ∙ sym c.in_default.ensures.value in
    let some : length entries < 1048576 = search rules in
    let few : length (gates d) < 1048576 = subst (λ (es : List ((ℕ × ℕ) × ℕ)). length es < 1048576) are some in
    let long : length held ≡ length d = sym (length_nodes others held) ∙ ap length c.self.view_is in
    let number : 2 * (c.len-3.result + 1) ≡ 2 * suc (length d) = search rules in
    let nodes : nodes_of others (held ++ (a, b) ∷ []) ≡ d ++ Gate a b ∷ [] = nodes_gate others held a b c.requires.greater ∙ ap (λ (xs : List Node). xs ++ Gate a b ∷ []) c.self.view_is in
    rw c.in-Ok.ensures.items (shared_new a b d none few ∙ ap₂ (λ (xs : List Node) (l : ℕ). Some (xs, l)) (sym nodes) (sym number))
