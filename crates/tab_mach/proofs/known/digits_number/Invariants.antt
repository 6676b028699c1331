use Rattle.std.proofs.Common.{◌≡◌, drop, min, ◌^◌, ◌-◌, ◌≤◌}
use Rattle.tab_tree.specs.Names.{digits_number}
use Rattle.tab_mach.proofs.known.digits_number.Given as goal

abbrev pub invariant-loop-digit : goal.invariant-loop-digit
invariant-loop-digit l = record {
  value : min (digits_number (drop l.digit-index l.digits) l.number) (2 ^ 64 - 1) ≡ min (digits_number l.digits 0) (2 ^ 64 - 1);
  small : l.number ≤ 2 ^ 64 - 1;
}
