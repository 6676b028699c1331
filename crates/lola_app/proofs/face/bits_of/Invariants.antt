use Rattle.std.proofs.Common.{◌≡◌, ◌++◌, drop, map, string_bytes}
use Rattle.lola_app.specs.Vectors.{bit_names}
use Rattle.lola_app.proofs.face.bits_of.Given as goal

-- the names so far, and those behind
abbrev pub invariant-loop-vector : goal.invariant-loop-vector
invariant-loop-vector l = map string_bytes l.names.items ++ bit_names (drop l.vector-index l.vectors) ≡ bit_names l.vectors
