use Rattle.std.proofs.Common.{take}
use Rattle.std.specs.List.{AllByRecursion}
use Rattle.lola_app.specs.Deciding.{IsFew}
use Rattle.lola_app.proofs.decide.first_wide.Given as goal

abbrev pub invariant-loop-number : goal.invariant-loop-number
invariant-loop-number l = AllByRecursion (IsFew l.subject) (take l.number l.list)
