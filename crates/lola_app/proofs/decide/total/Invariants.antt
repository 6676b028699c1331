use Rattle.std.proofs.Common.{◌≡◌, ◌+◌, drop}
use Rattle.lola_app.specs.Obligations.{total}
use Rattle.lola_app.proofs.decide.total.Given as goal

-- the bits so far, and those behind
abbrev pub invariant-loop-width : goal.invariant-loop-width
invariant-loop-width l = l.bits + total (drop l.width-index l.widths) ≡ total l.widths
