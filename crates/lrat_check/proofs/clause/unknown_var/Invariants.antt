use Rattle.std.proofs.Common.{◌≡◌, drop}
use Rattle.lrat_check.specs.Good.{unknown_var}
use Rattle.lrat_check.proofs.clause.unknown_var.Given as goal

abbrev pub invariant-loop-literal : goal.invariant-loop-literal
invariant-loop-literal l = unknown_var l.vars (drop l.literal-index l.clause) ≡ unknown_var l.vars l.clause
