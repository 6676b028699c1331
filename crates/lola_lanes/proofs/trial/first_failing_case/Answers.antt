use Rattle.std.proofs.Common.{rules}
use Rattle.lola_lanes.proofs.Blocks.{block_good, block_bad}
use Rattle.lola_lanes.proofs.trial.first_failing_case.Goals as goal

pub returns-then-case-total-clause-first : goal.returns-then-case-total-clause-first
returns-then-case-total-clause-first g c =
    let b = block_bad (g.T.WordTrial.fails c.args.trial.now) c.loop-block.block c.in-Ok.word c.from.result c.in-Ok.ensures.word c.loop-block.invariant c.if-word-ne0.true (search rules) in
    (search rules, b.0, b.1)

pub returns-else-case-total-clause-first : goal.returns-else-case-total-clause-first
returns-else-case-total-clause-first g c = λ e below.
    let b = block_bad (g.T.WordTrial.fails c.args.trial.now) c.loop-block.block c.in-Ok.word c.from.result c.in-Ok.ensures.word c.loop-block.invariant c.if-word-ne0.true (search rules) in
    b.1 e (search rules)

pub loop-block-preserved : goal.loop-block-preserved
loop-block-preserved g c = λ e below.
    block_good (g.T.WordTrial.fails c.args.trial.now) c.loop-block.block c.in-Ok.word c.in-Ok.ensures.word c.loop-block.invariant (search rules) e below
