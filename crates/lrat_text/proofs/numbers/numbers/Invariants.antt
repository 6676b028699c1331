use Rattle.std.proofs.Common.{◌≡◌, length}
use Rattle.lrat_text.specs.Cut.{items_of}
use Rattle.lrat_text.specs.Parse.{numbers, with_numbers}
use Rattle.lrat_text.proofs.numbers.numbers.Given as goal

abbrev pub invariant-loop-item : goal.invariant-loop-item
invariant-loop-item g l = numbers g.N.Number.reads (items_of l.line) ≡ with_numbers l.found.items (numbers g.N.Number.reads (items_of l.rest))

abbrev pub decreases-loop-item : goal.decreases-loop-item
decreases-loop-item g l = length l.rest
