use Rattle.std.proofs.Common.{◌≡◌, drop}
use Rattle.lrat_check.specs.Good.{hints_fault}
use Rattle.lrat_check.specs.Marks.{marked, IsLatest}
use Rattle.lrat_check.proofs.follow.follow.Given as goal

abbrev pub invariant-loop-hint : goal.invariant-loop-hint
invariant-loop-hint l =
    (hints_fault l.table.force (marked l.stamps l.stamp) (drop l.hint-index l.hints) ≡ hints_fault l.table.force (marked l.initial.stamps l.stamp) l.hints) × IsLatest l.stamps l.stamp
