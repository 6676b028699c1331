use Rattle.std.proofs.Common.{rules, sym, false}
use Rattle.lola_gate.proofs.Evals.{node_get}
use Rattle.lola_gate.proofs.gates.value_at.Goals as goal

pub returns-else-n-eq0 : goal.returns-else-n-eq0
returns-else-n-eq0 c = sym (node_get c.args.all.now c.args.n false c.if-n-eq0.false (search rules))
