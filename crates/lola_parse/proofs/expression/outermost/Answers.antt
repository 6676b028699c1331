use Rattle.std.proofs.Common.{length, arith}
use Rattle.lola_parse.proofs.TooLong.{long_at, begins_whole, front_long}
use Rattle.lola_parse.proofs.expression.outermost.Goals as goal

pub returns-then-left-floor-clause-long : goal.returns-then-left-floor-clause-long
returns-then-left-floor-clause-long c =
    let all = c.left.ensures in
    let floor = c.saturating_sub-floor.ensures in
    let left = c.left-in-Ok.ensures in
    let short = c.if-left-floor.true in
    long_at c.args.language c.args.here c.saturating_sub-floor.result (length c.in-Ok.behind) (omega arith) (omega arith) (begins_whole c.in-Ok.ensures.ok)

pub returns-in-Err-clause-long : goal.returns-in-Err-clause-long
returns-in-Err-clause-long c =
    let all = c.left.ensures in
    let floor = c.saturating_sub-floor.ensures in
    front_long c.args.language c.args.here c.saturating_sub-floor.result c.within.result (omega arith)
    (c.within.ensures.past c.args.language c.args.here c.in-Err.ensures.fails)
