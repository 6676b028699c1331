use Rattle.std.proofs.Common.{length}
use Rattle.lola_flat.specs.Value.{env, mapped}
use Rattle.lola_eval.proofs.Kept.{env_known}
use Rattle.lola_checks.specs.Tree.{claim_tree}
use Rattle.lola_checks.specs.Suits.{ClaimSuits}
use Rattle.lola_checks.proofs.Loops.{suits_at}
use Rattle.lola_checks.proofs.claims.lower_premises.Goals as goal

pub lower_claim-requires-clause-suits : goal.lower_claim-requires-clause-suits
lower_claim-requires-clause-suits g c =
    suits_at (ClaimSuits (mapped length (env c.args.signals.now c.args.outside.now))) claim_tree c.args.claims.now c.loop-at.at c.index-claims-at.result c.loop-at-test.true c.index-claims-at.is c.requires.suits

pub lower_claim-requires-clause-known : goal.lower_claim-requires-clause-known
lower_claim-requires-clause-known g c =
    let a = g.A.Algebra in
    env_known a.meaning (a.state c.args.alg.now) (a.state c.loop-at.alg) (env c.args.signals.now c.args.outside.now) c.loop-at.invariant.stays c.requires.known
