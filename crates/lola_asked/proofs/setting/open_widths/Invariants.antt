use Rattle.std.proofs.Common.{drop}
use Rattle.lola_asked.proofs.Vectors.{AreOpenSoFar}
use Rattle.lola_asked.proofs.setting.open_widths.Given as goal

abbrev pub invariant-loop-at : goal.invariant-loop-at
invariant-loop-at l = AreOpenSoFar l.given l.widths (drop l.at l.given) (drop l.at l.widths) l.made.items
