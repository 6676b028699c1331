use Rattle.lola_app.proofs.OneAnswer.{one_table}
use Rattle.lola_app.proofs.OneRefusal.{one_source}
use Rattle.lola_app.proofs.laws.one_spelling.Goals as goal

pub returns-clause-sources : goal.returns-clause-sources
returns-clause-sources c = λ bytes S R s r. one_source c.one_reading.ensures c.one_tree.ensures bytes S R s r

pub returns-clause-tables : goal.returns-clause-tables
returns-clause-tables c = λ bytes T U t u. one_table c.one_reading.ensures c.one_table.ensures bytes T U t u
