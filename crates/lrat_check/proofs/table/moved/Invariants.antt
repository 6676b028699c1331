use Rattle.lrat_check.proofs.Contents.{Moving}
use Rattle.lrat_check.proofs.table.moved.Given as goal

abbrev pub invariant-loop-entry : goal.invariant-loop-entry
invariant-loop-entry l = Moving l.arena l.slots l.entries l.last l.entry-index l.table.force l.table.last
