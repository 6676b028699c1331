use Rattle.std.proofs.Common.{◌≡◌}
use Rattle.lola_elab.proofs.Evaluates.{copies}
use Rattle.lola_elab.proofs.evaluate.repeated.Given as goal

-- the copies so far
abbrev pub invariant-loop-time : goal.invariant-loop-time
invariant-loop-time l = l.bits.items ≡ copies l._time l.part
