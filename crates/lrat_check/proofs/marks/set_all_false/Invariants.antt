use Rattle.std.proofs.Common.{◌≡◌, drop}
use Rattle.lrat_check.specs.Hints.{falsify_all}
use Rattle.lrat_check.specs.Marks.{marked, IsLatest}
use Rattle.lrat_check.proofs.marks.set_all_false.Given as goal

abbrev pub invariant-loop-literal : goal.invariant-loop-literal
invariant-loop-literal l = (falsify_all (marked l.stamps l.stamp) (drop l.literal-index l.clause) ≡ falsify_all (marked l.initial.stamps l.stamp) l.clause) × IsLatest l.stamps l.stamp
