use Rattle.std.proofs.Common.{arith, sym}
use Rattle.lrat_check.specs.Clauses.{AreKnown}
use Rattle.lrat_check.proofs.Followed.{all_known, on_ok}
use Rattle.lrat_check.proofs.follow.check.Goals as goal

pub set_all_false-requires-clause-within : goal.set_all_false-requires-clause-within
set_all_false-requires-clause-within c = λ k d h. let q = all_known c.args.vars c.args.clause.now (sym c.in-None.ensures) k d h in omega (arith, q, c.requires.room, c.fresh.ensures.stays)

pub returns-clause-known : goal.returns-clause-known
returns-clause-known c = on_ok c.follow.result (AreKnown c.args.vars c.args.clause.now) (all_known c.args.vars c.args.clause.now (sym c.in-None.ensures))
