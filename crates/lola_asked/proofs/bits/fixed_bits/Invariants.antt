use Rattle.std.proofs.Common.{◌≡◌, ◌-◌, ◌++◌}
use Rattle.lola_asked.specs.CaseBits.{fixed_bits}
use Rattle.lola_asked.proofs.bits.fixed_bits.Given as goal

-- the bits so far, and those of what is left
abbrev pub invariant-loop-place : goal.invariant-loop-place
invariant-loop-place l = l.bits.items ++ fixed_bits (l.width - l.place) l.rest ≡ fixed_bits l.width l.number
