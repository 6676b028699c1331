use Rattle.std.proofs.Common.{◌≡◌, replicate}
use Rattle.lola_eval.specs.Steps.{joined_bits}
use Rattle.lola_eval.proofs.parts.repeated.Given as goal

abbrev pub invariant-loop-turn : goal.invariant-loop-turn
invariant-loop-turn g l = l.bits.items ≡ joined_bits (replicate l.turn l.part)
