use Rattle.lola_eval.proofs.next.next_elements.Goals as goal

pub returns-in-None-place : goal.returns-in-None-place
returns-in-None-place g c = record { steps = rw (c.in-Some.is, c.in-None-place.is) (c.next_vector.ensures.steps c.args.old.now) }
