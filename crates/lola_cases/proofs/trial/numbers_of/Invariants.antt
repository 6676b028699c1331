use Rattle.std.proofs.Common.{◌≡◌, ◌++◌, ◌≤◌, drop}
use Rattle.lola_flat.specs.Value.{sum_of}
use Rattle.lola_cases.specs.Counting.{numbers_of}
use Rattle.lola_cases.proofs.trial.numbers_of.Given as goal

-- the bits that are left, and the numbers so far with those behind
abbrev pub invariant-loop-width : goal.invariant-loop-width
invariant-loop-width l = record {
  few : l.left ≤ 31;
  counted : l.left ≡ sum_of (drop l.width-index l.widths);
  made : l.numbers.items ++ numbers_of (drop l.width-index l.widths) l.rest ≡ numbers_of l.widths l.fn.number;
}
