use Rattle.std.proofs.Common.{[]}
use Rattle.lola_alg.proofs.Loops.{stay_known}
use Rattle.lola_gate.specs.Gates.{gates_meaning}
use Rattle.lola_flat.specs.Value.{env}
use Rattle.lola_eval.proofs.Kept.{env_known}
use Rattle.lola_lower.proofs.signals.lower_pad.Goals as goal

pub lower_some-requires-2-clause-known : goal.lower_some-requires-2-clause-known
lower_some-requires-2-clause-known c = env_known gates_meaning c.args.gates.now c.lower_some.new.gates (env c.args.signals.now []) c.in-Ok.ensures.kept.0 c.requires.known

pub make_pads-requires-clause-value : goal.make_pads-requires-clause-value
make_pads-requires-clause-value c = stay_known gates_meaning c.lower_some.new.gates c.lower_some-2.new.gates c.in-Ok.value c.in-Ok-lower_some.ensures.kept.0 c.in-Ok.ensures.kept.1
