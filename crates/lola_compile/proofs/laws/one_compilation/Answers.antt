use Rattle.lola_compile.proofs.One.{one_net}
use Rattle.lola_compile.proofs.laws.one_compilation.Goals as goal

pub returns : goal.returns
returns c = λ bytes. one_net c.one_order.ensures.one bytes (c.one_answer.ensures bytes)
