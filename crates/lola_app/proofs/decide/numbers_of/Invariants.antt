use Rattle.std.proofs.Common.{◌≡◌, ◌++◌, ◌≤◌, drop}
use Rattle.lola_app.specs.Obligations.{total}
use Rattle.lola_app.specs.Valuations.{numbers_of}
use Rattle.lola_app.proofs.decide.numbers_of.Given as goal

-- the bits that are left, and the numbers so far with those behind
abbrev pub invariant-loop-width : goal.invariant-loop-width
invariant-loop-width l = record {
  few : l.left ≤ 16;
  counted : l.left ≡ total (drop l.width-index l.widths);
  made : l.numbers.items ++ numbers_of (drop l.width-index l.widths) l.rest ≡ numbers_of l.widths l.fn.number;
}
