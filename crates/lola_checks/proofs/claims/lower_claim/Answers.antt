use Rattle.lola_flat.specs.Value.{env}
use Rattle.lola_checks.specs.Tree.{claim_tree}
use Rattle.lola_checks.proofs.ClaimsMean.{claim_means}
use Rattle.lola_checks.proofs.claims.lower_claim.Goals as goal

pub returns-in-Ok-clause-means : goal.returns-in-Ok-clause-means
returns-in-Ok-clause-means g c =
    let a = g.A.Algebra in
    claim_means a.calls a.meaning g.met.A.Algebra.law (env c.args.signals.now c.args.outside.now) (claim_tree c.args.claim.now) (a.state c.args.alg.now) (a.state c.claim_bit.new.alg, c.in-Ok.bit)
    c.requires.suits c.requires.known c.in-Ok.ensures.steps
