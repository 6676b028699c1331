use Rattle.std.proofs.Common.{◌++◌, List, Option, map, drop, sym, ap, ap₂, ◌∙◌}
use Rattle.std.specs.Vec.Iter.{into_iter_items}
use Rattle.lola_flat.specs.declared.expr.FExpr.{FExpr}
use Rattle.lola_flat.specs.Tree.{some_tree, signal_tree}
use Rattle.lola_unfold.specs.declared.made.Head.{Head}
use Rattle.lola_unfold.specs.declared.made.Next.{Next}
use Rattle.lola_unfold.specs.Pieces.{some_next}
use Rattle.lola_unfold.specs.Finished.{signals_from}
use Rattle.lola_unfold.proofs.Finishing.{finish_step}
use Rattle.lola_unfold.proofs.finish.finish_next.Goals as goal

pub returns-in_ok-push-in-Some-clause-made : goal.returns-in_ok-push-in-Some-clause-made
returns-in_ok-push-in-Some-clause-made c =
    let made = map signal_tree c.push.new.self.items in
    let hs = into_iter_items c.args.heads.now in
    let es = into_iter_items c.args.equations.now in
    let ns = into_iter_items c.args.nexts.now in
    ap (λ (l : List Head). made ++ signals_from l (map some_tree (into_iter_items c.taken-equation.new.items)) (map some_next (into_iter_items c.taken-next.new.items))) c.next_head.ensures.rest
    ∙ ap₂ (λ (l : List (Option FExpr)) (k : List (Option Next)). made ++ signals_from (drop 1 hs) (map some_tree l) (map some_next k)) c.taken-equation.ensures.rest c.taken-next.ensures.rest
    ∙ finish_step c.args.signals.now.items c.push.new.self.items c.signal_from.result hs c.in-Some.head es ns c.taken-equation.result c.taken-next.result c.in_ok-push-in-Some.ensures.items
    (sym c.next_head.ensures.item ∙ c.in-Some.is) c.taken-equation.ensures.item c.taken-next.ensures.item c.signal_from.ensures
