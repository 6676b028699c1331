use Rattle.std.proofs.Common.{sym, subst}
use Rattle.lola_alg.specs.Means.{AreKnown}
use Rattle.lola_alg.proofs.Loops.{stay_known}
use Rattle.lola_flat.specs.Value.{env}
use Rattle.lola_eval.proofs.Kept.{env_known}
use Rattle.lola_checks.proofs.compare.lower_alike.Goals as goal

pub lower_expr-requires-2-clause-known : goal.lower_expr-requires-2-clause-known
lower_expr-requires-2-clause-known g c =
    let a = g.A.Algebra in
    env_known a.meaning (a.state c.args.alg.now) (a.state c.lower_expr.new.alg) (env c.args.signals.now c.args.outside.now) c.in-Ok.ensures.means.stays c.requires.known

pub equal-requires-clause-left : goal.equal-requires-clause-left
equal-requires-clause-left g c =
    let a = g.A.Algebra in
    subst (AreKnown a.meaning (a.state c.lower_expr-2.new.alg)) (sym c.items.ensures)
    (stay_known a.meaning (a.state c.lower_expr.new.alg) (a.state c.lower_expr-2.new.alg) c.in-Ok.first c.in-Ok-lower_expr.ensures.means.stays c.in-Ok.ensures.means.known)
