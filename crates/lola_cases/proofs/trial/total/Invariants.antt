use Rattle.std.proofs.Common.{◌≡◌, ◌+◌, drop}
use Rattle.lola_flat.specs.Value.{sum_of}
use Rattle.lola_cases.proofs.trial.total.Given as goal

-- the bits so far, and those behind
abbrev pub invariant-loop-width : goal.invariant-loop-width
invariant-loop-width l = l.bits + sum_of (drop l.width-index l.widths) ≡ sum_of l.widths
