use Rattle.std.proofs.Common.{take}
use Rattle.lola_asked.specs.Words.{AreWords}
use Rattle.lola_asked.proofs.block.words.Given as goal

abbrev pub invariant-loop-at : goal.invariant-loop-at
invariant-loop-at l = AreWords l.block (take l.at l.bits) l.made.items
