use Rattle.lola_app.proofs.Lists.{two_and_more}
use Rattle.lola_app.proofs.obligation.add_resets.Goals as goal

pub returns : goal.returns
returns c =
    two_and_more _ _ _ _ _ _ _ _ _ _ _ c.in_ok-from_str.ensures.ok c.in_ok-from_str-2.ensures.ok c.in_ok-add.ensures c.in_ok-add-2.ensures c.in_ok-add_starts.ensures
