use Rattle.lola_app.proofs.Lists.{two_and_more}
use Rattle.lola_app.proofs.obligation.add_ends.Goals as goal

pub returns : goal.returns
returns c =
    two_and_more _ _ _ _ _ _ _ _ _ _ _ c.in_ok-format.ensures.ok c.in_ok-format-2.ensures.ok c.in_ok-add.ensures c.in_ok-add-2.ensures c.in_ok-add_states.ensures
