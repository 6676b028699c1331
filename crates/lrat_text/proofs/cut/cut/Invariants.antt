use Rattle.std.proofs.Common.{◌≡◌, take, drop}
use Rattle.lrat_text.specs.Cut.{cut, with_front}
use Rattle.lrat_text.proofs.cut.cut.Given as goal

abbrev pub invariant-loop-at : goal.invariant-loop-at
invariant-loop-at l = cut l.byte l.bytes ≡ with_front (take l.at l.bytes) (cut l.byte (drop l.at l.bytes))
