use Rattle.std.proofs.Common.{◌≡◌, drop}
use Rattle.std.specs.List.{list_all}
use Rattle.sat_search.specs.Ranges.{is_hint}
use Rattle.sat_search.proofs.ranges.are_hints.Given as goal

abbrev pub invariant-loop-hint : goal.invariant-loop-hint
invariant-loop-hint l = list_all is_hint (drop l.hint-index l.hints) ≡ list_all is_hint l.hints
