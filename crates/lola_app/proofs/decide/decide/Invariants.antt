use Rattle.std.proofs.Common.{take}
use Rattle.std.specs.List.{AllByRecursion}
use Rattle.lola_app.specs.Deciding.{PassesAlways}
use Rattle.lola_app.proofs.decide.decide.Given as goal

abbrev pub invariant-loop-number : goal.invariant-loop-number
invariant-loop-number l = AllByRecursion (PassesAlways l.subject) (take l.number l.list)
