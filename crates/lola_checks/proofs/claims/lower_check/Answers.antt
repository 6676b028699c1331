use Rattle.lola_flat.specs.Value.{env}
use Rattle.lola_checks.specs.Tree.{check_tree}
use Rattle.lola_checks.proofs.ClaimsMean.{check_means}
use Rattle.lola_checks.proofs.claims.lower_check.Goals as goal

pub returns-in-Ok-clause-means : goal.returns-in-Ok-clause-means
returns-in-Ok-clause-means g c =
    let a = g.A.Algebra in
    check_means a.calls a.meaning g.met.A.Algebra.law (env c.args.signals.now c.args.outside.now) (check_tree c.args.check.now) (a.state c.args.alg.now) (a.state c.check_bit.new.alg, c.in-Ok.bit)
    c.requires.suits c.requires.known c.in-Ok.ensures.steps
