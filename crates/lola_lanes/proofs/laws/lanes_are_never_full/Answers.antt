use Rattle.lola_alg.proofs.Places.{op_places, read_places, write_places}
use Rattle.lola_lanes.specs.Lanes.{lane_calls}
use Rattle.lola_lanes.proofs.laws.lanes_are_never_full.Goals as goal

pub returns-clause-op : goal.returns-clause-op
returns-clause-op c = λ o args. op_places lane_calls (λ d a b. tt) o args tt

pub returns-clause-read : goal.returns-clause-read
returns-clause-read c = λ elements place. read_places lane_calls (λ d a b. tt) elements place tt

pub returns-clause-write : goal.returns-clause-write
returns-clause-write c = λ place value elements. write_places lane_calls (λ d a b. tt) place value 0 elements tt
