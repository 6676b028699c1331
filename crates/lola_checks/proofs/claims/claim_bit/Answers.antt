use Rattle.lola_flat.specs.Value.{env}
use Rattle.lola_eval.proofs.Kept.{env_known}
use Rattle.lola_checks.proofs.claims.claim_bit.Goals as goal

pub lower_atoms-requires-clause-known : goal.lower_atoms-requires-clause-known
lower_atoms-requires-clause-known g c =
    let a = g.A.Algebra in
    env_known a.meaning (a.state c.args.alg.now) (a.state c.constant-one.new.self) (env c.args.signals.now c.args.outside.now) c.constant-one.ensures.kept.0 c.requires.known

pub lower_atoms-requires-in-Any-clause-known : goal.lower_atoms-requires-in-Any-clause-known
lower_atoms-requires-in-Any-clause-known g c =
    let a = g.A.Algebra in
    env_known a.meaning (a.state c.args.alg.now) (a.state c.constant-zero.new.self) (env c.args.signals.now c.args.outside.now) c.constant-zero.ensures.kept.0 c.requires.known
