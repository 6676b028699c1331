use Rattle.lola_app.proofs.OneAnswer.{one_answer_is, comes_at, is_reached, stops}
use Rattle.lola_app.specs.Decided.{decide_stage}
use Rattle.lola_app.proofs.laws.one_answer.Goals as goal

pub returns-clause-one : goal.returns-clause-one
returns-clause-one c = λ source table a b p q. one_answer_is c.one_reading.ensures c.one_tree.ensures c.one_table.ensures c.built_is_small.ensures.built source table a b p q

pub returns-clause-reached : goal.returns-clause-reached
returns-clause-reached c = λ source table a p. is_reached source table (decide_stage a) a (comes_at source table a p)

pub returns-clause-ends : goal.returns-clause-ends
returns-clause-ends c = λ source table a p.
    stops c.one_reading.ensures c.one_tree.ensures c.one_table.ensures c.built_is_small.ensures.built source table (decide_stage a) a (comes_at source table a p)
