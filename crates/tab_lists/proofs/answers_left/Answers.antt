use Rattle.tab_lists.proofs.Left.{arch_left, word_left, all_rows_left}
use Rattle.tab_lists.proofs.answers_left.Goals as goal

pub returns-clause-states : goal.returns-clause-states
returns-clause-states c = λ T b A i answers at. arch_left T b A i answers at

pub returns-clause-word : goal.returns-clause-word
returns-clause-word c = word_left

pub returns-clause-rows : goal.returns-clause-rows
returns-clause-rows c = λ T b A i answers at. all_rows_left T b A i answers at
