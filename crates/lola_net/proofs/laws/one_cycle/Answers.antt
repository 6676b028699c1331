use Rattle.lola_net.proofs.Solved.{solved, shows_solutions}
use Rattle.lola_net.proofs.laws.one_cycle.Goals as goal

pub returns-clause-nodes : goal.returns-clause-nodes
returns-clause-nodes c = λ nodes s o. solved nodes s o

pub returns-clause-shows : goal.returns-clause-shows
returns-clause-shows c = λ net formed. shows_solutions net formed
