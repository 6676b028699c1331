use Rattle.std.proofs.Common.{◌≡◌, drop}
use Rattle.std.specs.List.{list_all}
use Rattle.sat_search.specs.Ranges.{is_later}
use Rattle.sat_search.proofs.ranges.are_later.Given as goal

abbrev pub invariant-loop-id : goal.invariant-loop-id
invariant-loop-id l = list_all (is_later l.clauses) (drop l.id-index l.ids) ≡ list_all (is_later l.clauses) l.ids
