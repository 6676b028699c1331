use Rattle.std.proofs.lemmas.List.{length-map}
use Rattle.std.proofs.Common.{◌<◌, [], length, map, ◌∙◌, subst}
use Rattle.lola_flat.specs.Tree.{expr_tree, expr_trees}
use Rattle.lola_flat.specs.Value.{env, mapped, Fits}
use Rattle.lola_eval.specs.Steps.{lowers_step}
use Rattle.lola_eval.specs.Means.{MeansValue}
use Rattle.lola_eval.proofs.Means.{lower_means}
use Rattle.lola_eval.proofs.Kept.{env_known}
use Rattle.lola_eval.proofs.Loops.{lowers_more}
use Rattle.lola_bits.proofs.Places.{any_default}
use Rattle.lola_eval.proofs.Cases.{array_ready, elements_ready, lowers_done}
use Rattle.lola_eval.proofs.expr.+lower.Goals as goal

pub lower_expr-returns-in-Ok-clause-means : goal.lower_expr-returns-in-Ok-clause-means
lower_expr-returns-in-Ok-clause-means g t c =
    let a = g.A.Algebra in
    lower_means a.calls a.meaning g.met.A.Algebra.law (env c.args.signals.now c.args.outside.now) (expr_tree c.args.expr.now) (a.state c.args.alg.now) (a.state c.lower_case.new.alg, c.in-Ok.bits)
    c.requires.fits c.requires.known c.in-Ok.ensures.steps

pub lower_case-low_read-requires-clause-array : goal.lower_case-low_read-requires-clause-array
lower_case-low_read-requires-clause-array g t c =
    let a = g.A.Algebra in
    let fits = subst (λ e. Fits (mapped length (env c.args.signals.now c.args.outside.now)) (expr_tree e)) c.in-Element.is c.requires.fits in
    array_ready a.calls a.meaning g.met.A.Algebra.law (env c.args.signals.now c.args.outside.now) c.in-Element.number (expr_tree c.in-Element.place.value) (a.state c.args.alg.now) (a.state c.lower_expr.new.alg) c.in-Ok.place
    c.items-in-Ok.result.now fits c.requires.known
    (subst (λ e. MeansValue a.meaning (env c.args.signals.now c.args.outside.now) (expr_tree e) (a.state c.args.alg.now) (a.state c.lower_expr.new.alg, c.in-Ok.place)) c.deref.ensures c.in-Ok.ensures.means)
    (c.items-in-Ok.ensures ∙ any_default c.args.signals.now c.in-Element.number c.index-signals-number-in-Ok.result [] (subst (λ n. c.in-Element.number < n) (length-map c.args.signals.now (map length)) fits.0) c.index-signals-number-in-Ok.is)

pub lower_case-low_read-requires-clause-known : goal.lower_case-low_read-requires-clause-known
lower_case-low_read-requires-clause-known g t c =
    let a = g.A.Algebra in
    let fits = subst (λ e. Fits (mapped length (env c.args.signals.now c.args.outside.now)) (expr_tree e)) c.in-Element.is c.requires.fits in
    elements_ready a.calls a.meaning g.met.A.Algebra.law (env c.args.signals.now c.args.outside.now) c.in-Element.number (expr_tree c.deref.result.now) (a.state c.args.alg.now) (a.state c.lower_expr.new.alg) c.in-Ok.place
    c.items-in-Ok.result.now c.requires.known c.in-Ok.ensures.means
    (c.items-in-Ok.ensures ∙ any_default c.args.signals.now c.in-Element.number c.index-signals-number-in-Ok.result [] (subst (λ n. c.in-Element.number < n) (length-map c.args.signals.now (map length)) fits.0) c.index-signals-number-in-Ok.is)

pub lower_all-loop-at-preserved : goal.lower_all-loop-at-preserved
lower_all-loop-at-preserved g t c =
    let a = g.A.Algebra in
    let e = env c.args.signals.now c.args.outside.now in
    record {
      steps = lowers_more a.calls e c.args.exprs.now c.loop-at.at c.index-exprs-at.result (a.state c.loop-at.alg) (a.state c.lower_expr.new.alg) c.in-Ok.bits c.loop-at.made.items
          (lowers_step a.calls e (expr_trees c.args.exprs.now) (a.state c.args.alg.now)) c.loop-at-test.true c.index-exprs-at.is c.in-Ok.ensures.steps c.loop-at.invariant.steps c.push.new.self.items c.in_default.ensures.items;
      known = env_known a.meaning (a.state c.loop-at.alg) (a.state c.lower_expr.new.alg) e c.in-Ok.ensures.means.stays c.loop-at.invariant.known;
    }

pub lower_all-returns-clause-means : goal.lower_all-returns-clause-means
lower_all-returns-clause-means g t c =
    let a = g.A.Algebra in
    lowers_done a.calls a.meaning g.met.A.Algebra.law (env c.args.signals.now c.args.outside.now) c.args.exprs.now c.loop-at.at (a.state c.args.alg.now) (a.state c.loop-at.alg) c.loop-at.made.items
    c.loop-at-test.false c.requires.known c.requires.fits c.loop-at.invariant.steps
