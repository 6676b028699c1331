use Rattle.std.proofs.Common.{◌≡◌, ◌+◌, ◌++◌, length, sym, subst, rules}
use Rattle.lola_flat.specs.Tree.{flat_tree}
use Rattle.lola_eval.specs.Means.{AreSignalBits}
use Rattle.lola_lower.specs.Sources.{all_inputs, all_latches, given_from}
use Rattle.lola_lower.proofs.Whole.{start_ready, all_ready}
use Rattle.lola_lower.proofs.net.lower.Goals as goal

pub lower_order-requires-clause-given : goal.lower_order-requires-clause-given
lower_order-requires-clause-given c =
    let F = flat_tree c.args.flat.now in
    start_ready F (c.node_count-latch.result + 1) c.add_latches.new.gates c.in-Ok-given_literals.given.items (search rules) (search rules) (search rules)

pub lower_state-requires-clause-signals : goal.lower_state-requires-clause-signals
lower_state-requires-clause-signals c =
    subst (AreSignalBits (flat_tree c.args.flat.now)) (sym c.as_slice.ensures.value)
    (all_ready (flat_tree c.args.flat.now) c.requires.formed c.lower_order.new.gates c.in-Ok-lower_order.signals.items c.in-Ok-lower_order.ensures.ready)
