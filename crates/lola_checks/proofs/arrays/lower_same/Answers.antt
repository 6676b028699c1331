use Rattle.std.proofs.Common.{◌∙◌, ap, sym, subst}
use Rattle.std.specs.List.{AllByRecursion}
use Rattle.std.specs.Option.{unwrap_or}
use Rattle.lola_alg.specs.Means.{AreKnown}
use Rattle.lola_alg.proofs.Loops.{stays_then, stay_known_all}
use Rattle.lola_flat.specs.Value.{env, elements}
use Rattle.lola_eval.proofs.Kept.{env_known}
use Rattle.lola_checks.specs.Tree.{elements_tree}
use Rattle.lola_checks.proofs.ArrayMeans.{old_is, are_pairs}
use Rattle.lola_checks.proofs.arrays.lower_same.Goals as goal

pub lower_elements-requires-2-clause-known : goal.lower_elements-requires-2-clause-known
lower_elements-requires-2-clause-known g c =
    let a = g.A.Algebra in
    let s = c.requires.suits in
    env_known a.meaning (a.state c.args.alg.now) (a.state c.lower_elements.new.alg) (env c.args.signals.now c.args.outside.now) (c.in-Ok.ensures.means s.wide s.count s.left_suits).numbers.stays c.requires.known

pub same_elements-requires-clause-alike : goal.same_elements-requires-clause-alike
same_elements-requires-clause-alike g c =
    let a = g.A.Algebra in
    let s = c.requires.suits in
    let e = env c.args.signals.now c.args.outside.now in
    let l = elements_tree c.args.left.now in
    let r = elements_tree c.args.right.now in
    are_pairs a.meaning e l r (a.state c.args.alg.now) (a.state c.lower_elements.new.alg) (a.state c.lower_elements-2.new.alg) (unwrap_or c.in-Ok.first (elements e l.array)) (unwrap_or c.in-Ok-lower_elements.second (elements e r.array))
    c.made_or-xs.result.now c.made_or-ys.result.now s
    (c.made_or-xs.ensures ∙ ap (unwrap_or c.in-Ok.first) (old_is e s.wide s.count l c.index-signals-left.result c.items.result.now s.left_suits c.index-signals-left.is c.items.ensures))
    (c.made_or-ys.ensures ∙ ap (unwrap_or c.in-Ok-lower_elements.second) (old_is e s.wide s.count r c.index-signals-right.result c.items-2.result.now s.right_suits c.index-signals-right.is c.items-2.ensures))
    (c.in-Ok.ensures.means s.wide s.count s.left_suits) (c.in-Ok-lower_elements.ensures.means s.wide s.count s.right_suits)

pub same_elements-requires-clause-left : goal.same_elements-requires-clause-left
same_elements-requires-clause-left g c =
    let a = g.A.Algebra in
    let s = c.requires.suits in
    let e = env c.args.signals.now c.args.outside.now in
    let l = elements_tree c.args.left.now in
    let first = c.in-Ok.ensures.means s.wide s.count s.left_suits in
    let second = c.in-Ok-lower_elements.ensures.means s.wide s.count s.right_suits in
    subst (AllByRecursion (AreKnown a.meaning (a.state c.constant-one.new.self)))
    (sym (c.made_or-xs.ensures ∙ ap (unwrap_or c.in-Ok.first) (old_is e s.wide s.count l c.index-signals-left.result c.items.result.now s.left_suits c.index-signals-left.is c.items.ensures)))
    (stay_known_all a.meaning (a.state c.lower_elements.new.alg) (a.state c.constant-one.new.self) (unwrap_or c.in-Ok.first (elements e l.array))
    (stays_then a.meaning (a.state c.lower_elements.new.alg) (a.state c.lower_elements-2.new.alg) (a.state c.constant-one.new.self) second.numbers.stays c.constant-one.ensures.kept.0) first.numbers.known)

pub same_elements-requires-clause-right : goal.same_elements-requires-clause-right
same_elements-requires-clause-right g c =
    let a = g.A.Algebra in
    let s = c.requires.suits in
    let e = env c.args.signals.now c.args.outside.now in
    let r = elements_tree c.args.right.now in
    let second = c.in-Ok-lower_elements.ensures.means s.wide s.count s.right_suits in
    subst (AllByRecursion (AreKnown a.meaning (a.state c.constant-one.new.self)))
    (sym (c.made_or-ys.ensures ∙ ap (unwrap_or c.in-Ok-lower_elements.second) (old_is e s.wide s.count r c.index-signals-right.result c.items-2.result.now s.right_suits c.index-signals-right.is c.items-2.ensures)))
    (stay_known_all a.meaning (a.state c.lower_elements-2.new.alg) (a.state c.constant-one.new.self) (unwrap_or c.in-Ok-lower_elements.second (elements e r.array)) c.constant-one.ensures.kept.0 second.numbers.known)
