use Rattle.lrat_text.proofs.Parted.{items_last, not_one}
use Rattle.lrat_text.proofs.items.one_item.Goals as goal

pub returns-in-None-cut-clause-one : goal.returns-in-None-cut-clause-one
returns-in-None-cut-clause-one c = rw c.in-Some.is (items_last c.in-Some.line.now c.in-None-cut.ensures)

pub returns-in-Some-cut-clause-other : goal.returns-in-Some-cut-clause-other
returns-in-Some-cut-clause-other c = rw c.in-Some.is (λ item one. not_one c.in-Some.line.now c.in-Some-cut.field-0.0.now c.in-Some-cut.field-0.1.now item c.in-Some-cut.ensures one)
