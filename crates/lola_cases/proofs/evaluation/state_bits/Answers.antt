use Rattle.lola_flat.specs.Tree.{flat_tree}
use Rattle.lola_cases.proofs.PlainCycles.{all_known, plain_next}
use Rattle.lola_cases.proofs.evaluation.state_bits.Goals as goal

pub lower_state-requires-clause-known : goal.lower_state-requires-clause-known
lower_state-requires-clause-known c = all_known _ _

pub returns-in-Ok-clause-next : goal.returns-in-Ok-clause-next
returns-in-Ok-clause-next c = plain_next (flat_tree c.args.flat.now) tt tt c.args.signals.now c.in-Ok.table.items c.in-Ok.ensures.means.means
