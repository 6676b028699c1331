use Rattle.std.proofs.Common.{◌≡◌, ◌++◌, replicate}
use Rattle.lola_alg.proofs.shifts.push_copies.Given as goal

abbrev pub invariant-loop-turn : goal.invariant-loop-turn
invariant-loop-turn g l = l.bits.items ≡ l.fn.bits.items ++ replicate l.turn l.fn.bit
