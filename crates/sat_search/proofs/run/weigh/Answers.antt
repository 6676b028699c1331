use Rattle.sat_search.proofs.run.weigh.Goals as goal

pub returns-then-is_model : goal.returns-then-is_model
returns-then-is_model c = rw c.items.ensures at (c.is_model.ensures c.if-is_model.true)
