use Rattle.std.proofs.Common.{reverse}
use Rattle.lola_order.specs.State.{unmet_count}
use Rattle.lola_order.proofs.Chains.{IsWalk}
use Rattle.lola_order.proofs.chain.trail.Given as goal

abbrev pub invariant-loop-unseen : goal.invariant-loop-unseen
invariant-loop-unseen l = IsWalk l.graph l.met l.unseen.items l.signal (reverse l.seen.items)

abbrev pub decreases-loop-unseen : goal.decreases-loop-unseen
decreases-loop-unseen l = unmet_count l.unseen.items
