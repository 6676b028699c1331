use Rattle.lola_cases.proofs.Vectors.{HaveFirst}
use Rattle.lola_cases.proofs.tables.vectors.Given as goal

abbrev pub invariant-loop-at : goal.invariant-loop-at
invariant-loop-at l = HaveFirst l.width l.numbers l.at l.made.items
