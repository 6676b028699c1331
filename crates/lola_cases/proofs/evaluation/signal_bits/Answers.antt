use Rattle.lola_flat.specs.Tree.{flat_tree}
use Rattle.lola_cases.proofs.PlainCycles.{all_known, plain_cycle}
use Rattle.lola_cases.proofs.evaluation.signal_bits.Goals as goal

pub lower_signals-requires-clause-known : goal.lower_signals-requires-clause-known
lower_signals-requires-clause-known c = all_known _ _

pub returns-in-Ok-clause-cycle : goal.returns-in-Ok-clause-cycle
returns-in-Ok-clause-cycle c = plain_cycle (flat_tree c.args.flat.now) tt tt c.args.given.items c.args.outside.now c.in-Ok.table.items c.in-Ok.ensures.means.means
