use Rattle.lola_gate.proofs.Cycled.{cycled}
use Rattle.lola_gate.proofs.laws.nodes_have_cycles.Goals as goal

pub returns : goal.returns
returns c = λ d s. cycled d s
