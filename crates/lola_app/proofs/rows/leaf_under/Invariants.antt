use Rattle.std.proofs.Common.{◌≡◌, drop}
use Rattle.lola_app.specs.Starts.{leaf_under}
use Rattle.lola_app.proofs.rows.leaf_under.Given as goal

abbrev pub invariant-loop-state : goal.invariant-loop-state
invariant-loop-state l = leaf_under (drop l.state-index l.states) l.name ≡ leaf_under l.states l.name
