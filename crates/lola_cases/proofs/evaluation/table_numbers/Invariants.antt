use Rattle.std.proofs.Common.{◌≡◌, take}
use Rattle.lola_cases.specs.Bits.{table_numbers}
use Rattle.lola_cases.proofs.evaluation.table_numbers.Given as goal

abbrev pub invariant-loop-at : goal.invariant-loop-at
invariant-loop-at l = l.rows.items ≡ table_numbers (take l.at l.table)
