use Rattle.std.proofs.Common.{◌≡◌, ◌++◌, drop, flat_map}
use Rattle.lrat_text.specs.Lists.{blank_before}
use Rattle.lrat_text.proofs.numbers.push_numbers.Given as goal

abbrev pub invariant-loop-number : goal.invariant-loop-number
invariant-loop-number g l = l.out.items ++ flat_map (λ n. blank_before (g.N.Number.text n)) (drop l.number-index l.numbers)
    ≡ l.fn.out.items ++ flat_map (λ n. blank_before (g.N.Number.text n)) l.numbers
