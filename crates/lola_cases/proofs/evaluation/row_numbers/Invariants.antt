use Rattle.std.proofs.Common.{◌≡◌, take, map}
use Rattle.lola_bits.specs.BitLists.{number_of}
use Rattle.lola_cases.proofs.evaluation.row_numbers.Given as goal

abbrev pub invariant-loop-at : goal.invariant-loop-at
invariant-loop-at l = l.numbers.items ≡ map number_of (take l.at l.row)
