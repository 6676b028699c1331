use Rattle.std.proofs.Common.{◌≡◌}
use Rattle.lola_flat.specs.Numbers.{first_numbers}
use Rattle.lola_unfold.proofs.root.first_numbers.Given as goal

abbrev pub invariant-loop-number : goal.invariant-loop-number
invariant-loop-number l = l.numbers ≡ first_numbers l.number
