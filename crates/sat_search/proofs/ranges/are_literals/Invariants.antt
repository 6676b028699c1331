use Rattle.std.proofs.Common.{◌≡◌, drop}
use Rattle.std.specs.List.{list_all}
use Rattle.sat_search.specs.Ranges.{is_literal}
use Rattle.sat_search.proofs.ranges.are_literals.Given as goal

abbrev pub invariant-loop-literal : goal.invariant-loop-literal
invariant-loop-literal l = list_all is_literal (drop l.literal-index l.clause) ≡ list_all is_literal l.clause
