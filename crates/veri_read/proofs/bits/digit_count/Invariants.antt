use Rattle.std.proofs.Common.{◌≡◌, ◌≤◌, drop}
use Rattle.veri_read.specs.Bits.{digits_behind, digit_count}
use Rattle.veri_read.proofs.bits.digit_count.Given as goal

abbrev pub invariant-loop-b : goal.invariant-loop-b
invariant-loop-b l = record {
  few : l.count ≤ l.b-index;
  counted : digits_behind l.count (drop l.b-index l.name) ≡ digit_count l.name;
}
