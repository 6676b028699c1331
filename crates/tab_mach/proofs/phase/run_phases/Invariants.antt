use Rattle.std.proofs.Common.{◌≡◌, ◌+◌, ◌++◌, drop, length, map}
use Rattle.tab_tree.specs.Table.{phase_tree}
use Rattle.tab_tree.specs.Step.{cycles_of, end_words, rows}
use Rattle.tab_mach.specs.Begun.{words_of, table_of, steps_of}
use Rattle.tab_mach.specs.Sound.{AreWords}
use Rattle.tab_mach.proofs.phase.run_phases.Given as goal

-- the phases that are left lead from here to the words and the accesses of all
abbrev pub invariant-loop-number : goal.invariant-loop-number
invariant-loop-number l = record {
  words : end_words (table_of l.begun) (steps_of l.begun) l.begun.arch.now l.begun.word l.answers l.number (map phase_tree (drop l.number l.phases)) (words_of l.kept) l.at
      ≡ end_words (table_of l.begun) (steps_of l.begun) l.begun.arch.now l.begun.word l.answers 0 (map phase_tree l.phases) (words_of l.fn.kept) 0;
  accesses : l.accesses.items ++ rows (table_of l.begun) (steps_of l.begun) l.begun.arch.now l.begun.word l.answers l.number (map phase_tree (drop l.number l.phases)) (words_of l.kept) l.at
      ≡ l.fn.accesses.items ++ rows (table_of l.begun) (steps_of l.begun) l.begun.arch.now l.begun.word l.answers 0 (map phase_tree l.phases) (words_of l.fn.kept) 0;
  loaded_room : length l.kept.loaded.items ≡ length l.phases;
  turned_room : length l.kept.turned.items ≡ length l.phases;
  sound : AreWords l.kept;
  cycles : l.at + cycles_of (map phase_tree (drop l.number l.phases)) ≡ cycles_of (map phase_tree l.phases);
}
