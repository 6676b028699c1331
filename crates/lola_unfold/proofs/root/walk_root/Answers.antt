use Rattle.std.proofs.Common.{List, map, ap, ap₂, ◌∙◌}
use Rattle.lola_tree.specs.declared.module.Port.{Port}
use Rattle.lola_tree.specs.Tree.{StmtTree, stmt_tree, ModuleTree}
use Rattle.lola_unfold.specs.Pieces.{made_tree, View, view_at, grow, root_piece, body_piece}
use Rattle.lola_unfold.specs.Parts.{locals_piece}
use Rattle.lola_unfold.proofs.Walking.{root_entered, three_steps}
use Rattle.lola_unfold.proofs.root.walk_root.Goals as goal

pub returns : goal.returns
returns c = λ N E a s root.
    let old = made_tree c.args.made.now in
    let m = a.module_ in
    let ports = c.items.ensures ∙ ap (λ (n : ModuleTree). n.ports) s.is_part.is in
    let body = ap (map stmt_tree) c.items-2.ensures ∙ ap (λ (n : ModuleTree). n.body) s.is_part.is in
    let first = c.in_ok-add_root_ports.ensures ∙ ap₂ (λ (x : View) (ps : List Port). grow old (root_piece x ps)) s.view ports in
    let second = c.in_ok-fill_body.ensures ∙ ap₂ (λ (x : View) (ts : List StmtTree). grow (made_tree c.add_root_ports.new.made) (body_piece x ts)) s.view body in
    three_steps old (made_tree c.add_root_ports.new.made) (made_tree c.fill_body.new.made) (made_tree c.walk_locals.new.made) (root_piece (view_at N a) m.ports) (body_piece (view_at N a) m.body)
    (locals_piece N E a m.locals) first second (c.in_ok-walk_locals.ensures N E a s)
    ∙ ap (grow old) (root_entered N E a root)
