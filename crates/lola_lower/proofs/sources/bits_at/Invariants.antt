use Rattle.std.proofs.Common.{◌≡◌, ◌++◌, ◌-◌}
use Rattle.lola_lower.specs.Sources.{bits_at}
use Rattle.lola_lower.proofs.sources.bits_at.Given as goal

-- the literals so far, and those that are left
abbrev pub invariant-loop-place : goal.invariant-loop-place
invariant-loop-place l = l.bits.items ++ bits_at l.first (l.width - l.place) ≡ bits_at l.first l.width
