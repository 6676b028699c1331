use Rattle.std.proofs.Common.{◌≡◌, ◌-◌, ◌++◌}
use Rattle.lola_cases.proofs.Vectors.{bits_in}
use Rattle.lola_cases.proofs.tables.number_bits.Given as goal

-- the bits so far, and those of what is left
abbrev pub invariant-loop-place : goal.invariant-loop-place
invariant-loop-place l = l.bits.items ++ bits_in (l.width - l.place) l.rest ≡ bits_in l.width l.fn.number
