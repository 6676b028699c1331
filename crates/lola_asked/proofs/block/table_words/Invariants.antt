use Rattle.std.proofs.Common.{take}
use Rattle.lola_asked.specs.Words.{AreTableWords}
use Rattle.lola_asked.proofs.block.table_words.Given as goal

abbrev pub invariant-loop-at : goal.invariant-loop-at
invariant-loop-at l = AreTableWords l.block (take l.at l.rows) l.made.items
