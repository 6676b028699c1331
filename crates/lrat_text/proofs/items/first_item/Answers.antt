use Rattle.std.proofs.Common.{sym}
use Rattle.lrat_text.proofs.Parted.{items_last, items_more, cut_shorter}
use Rattle.lrat_text.proofs.items.first_item.Goals as goal

pub returns-in-None-clause-items : goal.returns-in-None-clause-items
returns-in-None-clause-items c = items_last c.args.line.now c.in-None.ensures

pub returns-in-Some-clause-items : goal.returns-in-Some-clause-items
returns-in-Some-clause-items c = items_more c.args.line.now c.in-Some.item.now c.in-Some.rest.now c.in-Some.ensures

pub returns-in-Some-clause-shorter : goal.returns-in-Some-clause-shorter
returns-in-Some-clause-shorter c = cut_shorter 32 c.args.line.now (c.in-Some.item.now, c.in-Some.rest.now) (sym c.in-Some.ensures)
