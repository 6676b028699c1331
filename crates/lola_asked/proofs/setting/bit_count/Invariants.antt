use Rattle.std.proofs.Common.{◌≡◌, ◌+◌, ◌≤◌, min, drop}
use Rattle.lola_flat.specs.Value.{sum_of}
use Rattle.lola_asked.proofs.setting.bit_count.Given as goal

abbrev pub invariant-loop-width : goal.invariant-loop-width
invariant-loop-width l = record {
  fits : l.bits ≤ 4294967295;
  counted : min (l.bits + sum_of (drop l.width-index l.widths)) 4294967295 ≡ min (sum_of l.widths) 4294967295;
}
