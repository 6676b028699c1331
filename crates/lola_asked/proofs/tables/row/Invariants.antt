use Rattle.std.proofs.Common.{◌≡◌, ◌++◌, drop}
use Rattle.lola_asked.proofs.tables.row.Given as goal

abbrev pub invariant-loop-at : goal.invariant-loop-at
invariant-loop-at l = l.made.items ++ drop l.at l.vectors ≡ l.vectors
