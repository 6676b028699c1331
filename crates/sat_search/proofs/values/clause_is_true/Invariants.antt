use Rattle.std.proofs.Common.{◌≡◌, drop}
use Rattle.lrat_check.specs.Truth.{clause_true}
use Rattle.sat_search.specs.Values.{value_of}
use Rattle.sat_search.proofs.values.clause_is_true.Given as goal

abbrev pub invariant-loop-literal : goal.invariant-loop-literal
invariant-loop-literal l = clause_true (value_of l.values) (drop l.literal-index l.clause) ≡ clause_true (value_of l.values) l.clause
