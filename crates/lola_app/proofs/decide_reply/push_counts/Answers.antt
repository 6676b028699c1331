use Rattle.lola_app.proofs.Appends.{three_pieces}
use Rattle.lola_app.proofs.decide_reply.push_counts.Goals as goal

pub returns : goal.returns
returns c = three_pieces _ _ _ _ _ _ _ c.in_ok-push_number.ensures c.in_ok-push_number-2.ensures c.in_ok-extend_from_slice.ensures.items
