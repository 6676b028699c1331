use Rattle.lola_alg.proofs.Loops.{stays_then}
use Rattle.lola_flat.specs.Value.{env}
use Rattle.lola_eval.proofs.Kept.{env_known}
use Rattle.lola_checks.proofs.claims.check_bit.Goals as goal

pub lower_premises-requires-clause-known : goal.lower_premises-requires-clause-known
lower_premises-requires-clause-known g c =
    let a = g.A.Algebra in
    env_known a.meaning (a.state c.args.alg.now) (a.state c.constant-one.new.self) (env c.args.signals.now c.args.outside.now) c.constant-one.ensures.kept.0 c.requires.known

pub lower_claim-requires-clause-known : goal.lower_claim-requires-clause-known
lower_claim-requires-clause-known g c =
    let a = g.A.Algebra in
    env_known a.meaning (a.state c.args.alg.now) (a.state c.lower_premises.new.alg) (env c.args.signals.now c.args.outside.now)
    (stays_then a.meaning (a.state c.args.alg.now) (a.state c.constant-one.new.self) (a.state c.lower_premises.new.alg) c.constant-one.ensures.kept.0 c.in-Ok.ensures.kept.0) c.requires.known
