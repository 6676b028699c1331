use Rattle.std.proofs.Common.{◌≤◌, ◌-◌}
use Rattle.sat_search.specs.Kept.{IsKept}
use Rattle.sat_search.proofs.run.conduct.Given as goal

abbrev pub invariant-loop-keeper : goal.invariant-loop-keeper
invariant-loop-keeper g l = record { kept : IsKept l.cnf l.keeper; within : l.keeper.count ≤ l.limit }

abbrev pub decreases-loop-keeper : goal.decreases-loop-keeper
decreases-loop-keeper g l = l.limit - l.keeper.count
