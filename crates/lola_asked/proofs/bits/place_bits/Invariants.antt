use Rattle.std.proofs.Common.{◌≡◌, ◌+◌, ◌-◌, ◌++◌}
use Rattle.lola_asked.specs.CaseBits.{place_bits}
use Rattle.lola_asked.proofs.bits.place_bits.Given as goal

abbrev pub invariant-loop-at : goal.invariant-loop-at
invariant-loop-at l = l.bits.items ++ place_bits (l.width - l.at) (l.place + l.at) ≡ place_bits l.width l.place
