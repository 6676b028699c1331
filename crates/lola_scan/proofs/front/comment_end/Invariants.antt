use Rattle.lola_scan.proofs.Comments.{Comes}
use Rattle.lola_scan.proofs.front.comment_end.Given as goal

abbrev pub invariant-loop-n : goal.invariant-loop-n
invariant-loop-n l = Comes l.inside l.n
