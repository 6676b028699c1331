use Rattle.lola_alg.proofs.Loops.{stays_then, stay_known, stay_known_all}
use Rattle.lola_flat.specs.Value.{env}
use Rattle.lola_eval.proofs.Kept.{env_known}
use Rattle.lola_checks.proofs.arrays.lower_write.Goals as goal

pub lower_expr-requires-2-clause-known : goal.lower_expr-requires-2-clause-known
lower_expr-requires-2-clause-known g c =
    let a = g.A.Algebra in
    env_known a.meaning (a.state c.args.alg.now) (a.state c.lower_expr.new.alg) (env c.args.signals.now c.args.outside.now) c.in-Ok.ensures.means.stays c.requires.known

pub low_write-requires-clause-known : goal.low_write-requires-clause-known
low_write-requires-clause-known g c =
    let a = g.A.Algebra in
    stay_known_all a.meaning (a.state c.args.alg.now) (a.state c.lower_expr-2.new.alg) c.args.old.now
    (stays_then a.meaning (a.state c.args.alg.now) (a.state c.lower_expr.new.alg) (a.state c.lower_expr-2.new.alg) c.in-Ok.ensures.means.stays c.in-Ok-lower_expr.ensures.means.stays) c.requires.old

pub low_write-requires-clause-place : goal.low_write-requires-clause-place
low_write-requires-clause-place g c =
    let a = g.A.Algebra in
    stay_known a.meaning (a.state c.lower_expr.new.alg) (a.state c.lower_expr-2.new.alg) c.in-Ok.at c.in-Ok-lower_expr.ensures.means.stays c.in-Ok.ensures.means.known
