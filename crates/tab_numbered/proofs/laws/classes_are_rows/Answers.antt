use Rattle.tab_numbered.proofs.Classes.{class_rows, class_held}
use Rattle.tab_numbered.proofs.laws.classes_are_rows.Goals as goal

pub returns-clause-widths : goal.returns-clause-widths
returns-clause-widths c = λ S T b loads turns counts registers W g given. class_rows c.rows_hold.ensures.rows S T b loads turns counts registers W g given

pub returns-clause-values : goal.returns-clause-values
returns-clause-values c = λ S T b loads turns counts registers shown A i m k W N g given bare_are word_is holds long.
    class_held c.rows_hold.ensures.rows S T b loads turns counts registers W g given c.rows_hold.ensures.values shown A i m k N bare_are word_is holds long
