use Rattle.std.proofs.Common.{subst}
use Rattle.lola_alg.specs.Means.{AreKnown}
use Rattle.lola_alg.proofs.Loops.{stay_known}
use Rattle.lola_alg.proofs.arrays.read.Goals as goal

pub narrowed-requires-clause-same : goal.narrowed-requires-clause-same
narrowed-requires-clause-same g c = (c.requires.same.0, c.in-Ok.ensures.wide c.requires.same.0 c.requires.same.1)

pub narrowed-requires-clause-place : goal.narrowed-requires-clause-place
narrowed-requires-clause-place g c =
    let a = g.A.Algebra in
    let known = subst (AreKnown a.meaning (a.state c.args.alg.now)) c.in-Some.ensures.cases.0 c.requires.place in
    stay_known a.meaning (a.state c.args.alg.now) (a.state c.halved.new.alg) c.in-Some.rest.now c.in-Ok.ensures.kept.0 known.1
