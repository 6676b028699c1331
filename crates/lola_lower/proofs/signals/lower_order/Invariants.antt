use Rattle.std.proofs.Common.{◌≡◌, [], take, drop}
use Rattle.lola_flat.specs.Tree.{flat_tree}
use Rattle.lola_flat.specs.Value.{env}
use Rattle.lola_lower.specs.Steps.{order_step}
use Rattle.lola_lower.specs.Ready.{IsReady}
use Rattle.lola_lower.proofs.signals.lower_order.Given as goal

abbrev pub invariant-loop-at : goal.invariant-loop-at
invariant-loop-at l = record {
  steps : order_step (flat_tree l.flat) (env l.fn.given.items []) l.order l.fn.gates ≡ order_step (flat_tree l.flat) (env l.table.items []) (drop l.at l.order) l.gates;
  ready : IsReady (flat_tree l.flat) (take l.at l.order) l.gates l.table.items;
}
