use Rattle.small_read.proofs.Fronts.{word_next}
use Rattle.small_read.proofs.rows.take_word.Goals as goal

pub returns-in-Ok-clause-ok : goal.returns-in-Ok-clause-ok
returns-in-Ok-clause-ok c = rw c.in-Ok.ensures (word_next c.args.here c.next-next.result c.next-next.ensures c.if-not-next.false)
