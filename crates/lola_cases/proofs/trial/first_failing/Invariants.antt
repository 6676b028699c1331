use Rattle.std.proofs.Common.{ℕ, ◌<◌}
use Rattle.lola_cases.specs.Counting.{numbers_of}
use Rattle.lola_cases.proofs.trial.first_failing.Given as goal

abbrev pub invariant-loop-number : goal.invariant-loop-number
invariant-loop-number g l = (c : ℕ) → c < l.number → g.T.Trial.holds l.trial (numbers_of l.widths c)
