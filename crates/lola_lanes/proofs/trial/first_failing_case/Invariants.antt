use Rattle.std.proofs.Common.{◌≡◌, ℕ, ◌<◌, ◌*◌, false}
use Rattle.lola_lanes.proofs.trial.first_failing_case.Given as goal

abbrev pub invariant-loop-block : goal.invariant-loop-block
invariant-loop-block g l = (c : ℕ) → c < 64 * l.block → g.T.WordTrial.fails l.trial c ≡ false
