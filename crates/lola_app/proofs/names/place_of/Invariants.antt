use Rattle.std.proofs.Common.{drop, map, string_bytes}
use Rattle.lola_bits.specs.Lists.{IsIn}
use Rattle.lola_app.proofs.names.place_of.Given as goal

-- the name is behind, if it is there
abbrev pub invariant-loop-place : goal.invariant-loop-place
invariant-loop-place l = IsIn l.name (map string_bytes l.names) → IsIn l.name (map string_bytes (drop l.place l.names))
