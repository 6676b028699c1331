use Rattle.lola_scan.proofs.Comments.{ends_on, ends_found, ends_none}
use Rattle.lola_scan.proofs.front.comment_end.Goals as goal

pub returns-then-ends_comment : goal.returns-then-ends_comment
returns-then-ends_comment c = ends_found c.args.inside.now c.loop-n.n c.ends_comment.result c.loop-n.invariant (rw c.split_at.ensures.back at c.ends_comment.ensures) c.if-ends_comment.true

pub loop-n-preserved : goal.loop-n-preserved
loop-n-preserved c = ends_on c.args.inside.now c.loop-n.n c.ends_comment.result c.loop-n.invariant c.loop-n-test.true (rw c.split_at.ensures.back at c.ends_comment.ensures) c.if-ends_comment.false

pub returns : goal.returns
returns c = ends_none c.args.inside.now c.loop-n.n c.loop-n.invariant c.loop-n-test.false
