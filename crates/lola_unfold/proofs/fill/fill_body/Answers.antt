use Rattle.std.proofs.Common.{List, take, map, sym, ap, ◌∙◌, arith}
use Rattle.std.proofs.lemmas.List.{take_all}
use Rattle.lola_bits.proofs.Places.{map_item}
use Rattle.lola_tree.specs.declared.module.Stmt.{Stmt}
use Rattle.lola_tree.specs.Tree.{StmtTree, stmt_tree}
use Rattle.lola_unfold.specs.Pieces.{made_tree, grow, stmt_piece, body_piece}
use Rattle.lola_unfold.specs.Parts.{view_in}
use Rattle.lola_unfold.proofs.Growing.{grow_none, two_steps, body_more}
use Rattle.lola_unfold.proofs.fill.fill_body.Goals as goal

pub loop-stmt-init : goal.loop-stmt-init
loop-stmt-init c = sym (grow_none (made_tree c.args.made.now))

pub loop-stmt-preserved : goal.loop-stmt-preserved
loop-stmt-preserved c =
    let w = view_in c.args.part.now c.args.site.now in
    let old = made_tree c.args.made.now in
    let body = c.args.body.now in
    let done = map stmt_tree (take c.loop-stmt.stmt-index body) in
    let t = stmt_tree c.stmt-item.result in
    two_steps old (made_tree c.loop-stmt.made) (made_tree c.fill_stmt.new.made) (body_piece w done) (stmt_piece w t) c.loop-stmt.invariant c.in_ok-fill_stmt.ensures
    ∙ ap (grow old) (body_more w done t) ∙ sym (ap (λ (l : List StmtTree). grow old (body_piece w l)) (map_item stmt_tree body c.loop-stmt.stmt-index c.stmt-item.result (omega arith) c.stmt-item.is))

pub returns : goal.returns
returns c =
    c.loop-stmt.invariant
    ∙ ap (λ (l : List Stmt). grow (made_tree c.args.made.now) (body_piece (view_in c.args.part.now c.args.site.now) (map stmt_tree l))) (take_all c.loop-stmt.stmt-index c.args.body.now c.loop-stmt-test.false)
