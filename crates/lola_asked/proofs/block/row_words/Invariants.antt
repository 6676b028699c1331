use Rattle.std.proofs.Common.{take}
use Rattle.lola_asked.specs.Words.{AreRowWords}
use Rattle.lola_asked.proofs.block.row_words.Given as goal

abbrev pub invariant-loop-at : goal.invariant-loop-at
invariant-loop-at l = AreRowWords l.block (take l.at l.vectors) l.made.items
