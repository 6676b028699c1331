use Rattle.std.proofs.Common.{drop}
use Rattle.lola_asked.proofs.Vectors.{AreVectorsSoFar}
use Rattle.lola_asked.proofs.bits.vectors_of.Given as goal

abbrev pub invariant-loop-at : goal.invariant-loop-at
invariant-loop-at l = AreVectorsSoFar l.given l.widths (drop l.at l.given) (drop l.at l.widths) l.left l.vectors.items
