use Rattle.std.proofs.Common.{◌≡◌, ◌++◌, drop}
use Rattle.lola_cases.specs.Free.{widths}
use Rattle.lola_cases.proofs.free.free_widths.Given as goal

abbrev pub invariant-loop-element : goal.invariant-loop-element
invariant-loop-element l = l.widths.items ++ widths (drop l.element-index l.elements) ≡ widths l.elements
