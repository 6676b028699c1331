use Rattle.lola_parse.proofs.Local.{bit_of_count}
use Rattle.lola_parse.proofs.Begun.{begins_as, stops_on}
use Rattle.lola_parse.proofs.reference.bit.Goals as goal

pub returns-in_err-index-clause-stops : goal.returns-in_err-index-clause-stops
returns-in_err-index-clause-stops c = stops_on _ _ (λ left b. begins_as bit_of_count b) c.from_residual.ensures.1 c.in_err-index.ensures.stops
