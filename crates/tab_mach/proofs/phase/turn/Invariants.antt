use Rattle.std.proofs.Common.{◌≡◌, Some}
use Rattle.tab_tree.specs.Table.{turns_tree}
use Rattle.tab_tree.specs.Step.{turn_words}
use Rattle.tab_mach.specs.Begun.{words_of, table_of, steps_of, SameRoom}
use Rattle.tab_mach.specs.Sound.{AreWords}
use Rattle.tab_mach.proofs.phase.turn.Given as goal

-- the words after so many turns
abbrev pub invariant-loop-count : goal.invariant-loop-count
invariant-loop-count l = record {
  words : words_of l.kept ≡ turn_words (table_of l.begun) (steps_of l.begun) l.begun.arch.now l.begun.word l.number (turns_tree (Some l.turns)) (words_of l.fn.kept) l.count;
  room : SameRoom l.fn.kept l.kept;
  sound : AreWords l.kept;
}
